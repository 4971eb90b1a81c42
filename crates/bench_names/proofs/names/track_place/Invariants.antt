use Rattle.std.proofs.Common.{◌≡◌, ℕ, ◌<◌, drop}
use Rattle.std.specs.Prelude.{false, nat_eq}
use Rattle.std.specs.List.{starts_with}
use Rattle.bench_names.specs.Names.{track}
use Rattle.bench_names.proofs.names.track_place.Given as goal

abbrev pub invariant-loop-place : goal.invariant-loop-place
invariant-loop-place l = (k : ℕ) → k < l.place → starts_with nat_eq (drop k l.name) track ≡ false
