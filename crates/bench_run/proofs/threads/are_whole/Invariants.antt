use Rattle.std.proofs.Common.{◌≡◌, true, take}
use Rattle.std.specs.List.{AllByRecursion}
use Rattle.bench_run.specs.declared.threads.Joined.{Joined}
use Rattle.bench_run.proofs.threads.are_whole.Given as goal

abbrev pub invariant-loop-one : goal.invariant-loop-one
invariant-loop-one l = AllByRecursion (λ (j : Joined). j.is_whole ≡ true) (take l.one-index l.joined)
