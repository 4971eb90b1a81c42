use Rattle.std.proofs.Common.{ap, ◌∙◌}
use Rattle.mil_trunk.specs.Tags.{has}
use Rattle.run_tests.proofs.tests.settled.settled.Goals as goal

pub settle-poster-requires-clause-ends : goal.settle-poster-requires-clause-ends
settle-poster-requires-clause-ends g c = (c.loop-word.invariant.poster, c.loop-word.invariant.inbox)

pub settle-poster-requires-clause-all : goal.settle-poster-requires-clause-all
settle-poster-requires-clause-all g c = c.loop-word.invariant.holds

pub loop-word-preserved : goal.loop-word-preserved
loop-word-preserved g c =
    let was = c.loop-word.invariant in
    let now = c.settle-poster.ensures in
    record {
      poster = now.ends.0;
      inbox = now.ends.1;
      holds = λ host low. ap (λ hosts. has hosts host) now.hosts ∙ was.holds host low;
    }
