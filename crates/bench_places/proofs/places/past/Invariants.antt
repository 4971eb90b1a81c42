use Rattle.std.proofs.Common.{◌≡◌, drop}
use Rattle.bench_places.proofs.places.past.Given as goal

abbrev pub invariant-loop-passed : goal.invariant-loop-passed
invariant-loop-passed l = l.rest ≡ drop l._passed l.fn.messages
