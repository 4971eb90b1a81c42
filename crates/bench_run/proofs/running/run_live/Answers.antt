use Rattle.bench_mail.specs.Mail.{IsMadeFor}
use Rattle.bench_run.proofs.Pairs.{same_length}
use Rattle.bench_run.proofs.running.run_live.Goals as goal

pub run_lawful-requires-clause-boxes : goal.run_lawful-requires-clause-boxes
run_lawful-requires-clause-boxes g c κs within =
    same_length IsMadeFor c.args.boxes.now c.args.jobs.now (c.have_mail.ensures.0 c.if-not-have_mail.false).boxes_fit

pub run_lawful-requires-clause-most : goal.run_lawful-requires-clause-most
run_lawful-requires-clause-most g c κs within = c.in-Ok.ensures.lawful.ranges.posts
