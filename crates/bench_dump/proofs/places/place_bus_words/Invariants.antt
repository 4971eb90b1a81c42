use Rattle.std.proofs.Common.{length}
use Rattle.bench_dump.proofs.Placing.{IsPlacing}
use Rattle.bench_dump.proofs.places.place_bus_words.Given as goal

abbrev pub invariant-words : goal.invariant-words
invariant-words l = IsPlacing l.fn.buffer l.buffer l.start l.at l.words l.rest

abbrev pub decreases-words : goal.decreases-words
decreases-words l = length l.rest
