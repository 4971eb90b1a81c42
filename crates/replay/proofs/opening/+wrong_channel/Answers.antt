use Rattle.replay.proofs.Channels.{both_longer}
use Rattle.replay.proofs.opening.+wrong_channel.Goals as goal

pub returns-in-Some-Some-2 : goal.returns-in-Some-Some-2
returns-in-Some-Some-2 t c =
    both_longer c.in-Some-Some.job.now c.in-Some-Some.part.now c.in-Some-Some.field-0-1-0.now c.in-Some-Some.field-0-1-1.now c.args.jobs.now c.args.parts.now c.wrong_channel.result
    c.in-Some-Some.ensures.cases.0 c.in-Some-Some.ensures'.cases.0 c.if-job-part.false c.wrong_channel.ensures
