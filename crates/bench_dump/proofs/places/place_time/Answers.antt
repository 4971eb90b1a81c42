use Rattle.bench_dump.proofs.Placing.{placed_then}
use Rattle.bench_dump.proofs.places.place_time.Goals as goal

pub returns-in-Some-clause-placed : goal.returns-in-Some-clause-placed
returns-in-Some-clause-placed c = rw c.in-Some.is (placed_then _ _ _ _ _ _ _ _ c.place_label-middle.ensures.placed c.place_day.ensures.placed)
