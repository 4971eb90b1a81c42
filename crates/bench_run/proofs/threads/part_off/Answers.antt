use Rattle.std.proofs.Common.{ap, ◌∙◌, not, ◌&&◌}
use Rattle.std.proofs.Math.Bool.{and-true}
use Rattle.mil_trunk.specs.Tags.{has}
use Rattle.mil_trunk.specs.Ends.{tags_of}
use Rattle.bench_run.proofs.threads.part_off.Goals as goal

pub returns-clause-left : goal.returns-clause-left
returns-clause-left c =
    λ t ne. c.split.ensures.gone t ∙ ap (λ b. has (tags_of c.args.rest.now) t && not b) (c.with.ensures.others t ne ∙ c.none.ensures t) ∙ and-true (has (tags_of c.args.rest.now) t)
