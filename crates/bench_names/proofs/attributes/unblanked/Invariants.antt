use Rattle.std.proofs.Common.{◌≡◌, length}
use Rattle.bench_names.specs.Attributes.{unblanked}
use Rattle.bench_names.proofs.attributes.unblanked.Given as goal

abbrev pub invariant-blank : goal.invariant-blank
invariant-blank l = unblanked l.rest ≡ unblanked l.text

abbrev pub decreases-blank : goal.decreases-blank
decreases-blank l = length l.rest
