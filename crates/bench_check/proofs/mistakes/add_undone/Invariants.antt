use Rattle.std.proofs.Common.{◌≡◌, ◌++◌, take}
use Rattle.std.specs.List.{flat_map}
use Rattle.bench_check.specs.Mistakes.{undone_at}
use Rattle.bench_check.proofs.mistakes.add_undone.Given as goal

-- those that were looked at are added
abbrev pub invariant-loop-place : goal.invariant-loop-place
invariant-loop-place l = l.found.items ≡ l.fn.found.items ++ flat_map (undone_at l.made) (take l.place l.actions)
