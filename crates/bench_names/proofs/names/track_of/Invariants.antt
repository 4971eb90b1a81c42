use Rattle.std.proofs.Common.{◌≡◌, length}
use Rattle.std.specs.List.{find}
use Rattle.bench_names.specs.Attributes.{attributes}
use Rattle.bench_names.specs.Names.{is_track}
use Rattle.bench_names.proofs.names.track_of.Given as goal

abbrev pub invariant-attributes : goal.invariant-attributes
invariant-attributes l = find (is_track l.channel) (attributes l.rest) ≡ find (is_track l.channel) (attributes l.text)

abbrev pub decreases-attributes : goal.decreases-attributes
decreases-attributes l = length l.rest
