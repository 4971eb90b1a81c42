use Rattle.std.proofs.Common.{◌≡◌, ◌+◌, ◌++◌, drop}
use Rattle.bench_check.specs.Fitting.{tight_from}
use Rattle.bench_check.proofs.fitting.tight_of.Given as goal

abbrev pub invariant-loop-one : goal.invariant-loop-one
invariant-loop-one l = record {
  counted : l.place ≡ l.one-index;
  left : l.tight.items ++ tight_from (l.one-index + 1) (drop l.one-index l.frames) ≡ tight_from 1 l.frames;
}
