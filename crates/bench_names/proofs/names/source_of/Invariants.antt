use Rattle.std.proofs.Common.{◌≡◌, length}
use Rattle.bench_names.specs.Attributes.{attributes}
use Rattle.bench_names.specs.Names.{sourced}
use Rattle.bench_names.proofs.names.source_of.Given as goal

abbrev pub invariant-attributes : goal.invariant-attributes
invariant-attributes l = sourced l.track (attributes l.rest) ≡ sourced l.track (attributes l.text)

abbrev pub decreases-attributes : goal.decreases-attributes
decreases-attributes l = length l.rest
