use Rattle.bench_dump.proofs.Placing.{words_placed}
use Rattle.bench_dump.proofs.places.place_bus_words.Goals as goal

pub returns-clause-placed : goal.returns-clause-placed
returns-clause-placed c = words_placed _ _ _ _ _ c.words.rest.now c.words.invariant c.words-test.false
