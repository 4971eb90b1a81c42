use Rattle.std.proofs.Common.{◌≡◌, drop, take, None}
use Rattle.std.specs.List.{last_or}
use Rattle.bench_select.specs.Viewed.{viewed_in}
use Rattle.bench_places.specs.Places.{places_behind}
use Rattle.bench_places.proofs.places.latest_place.Given as goal

abbrev pub invariant-loop-passed : goal.invariant-loop-passed
invariant-loop-passed l = record {
  rest : l.rest ≡ drop l.passed (viewed_in l.index);
  latest : l.latest ≡ last_or None (places_behind 0 l.sought (take l.passed (viewed_in l.index)));
}
