use Rattle.std.proofs.Common.{arith, sym, true≢false}
use Rattle.bench_mail.specs.Mail.{IsMadeFor}
use Rattle.bench_run.proofs.Pairs.{same_length}
use Rattle.bench_run.proofs.running.have_mail.Goals as goal

pub returns-then-boxes-jobs : goal.returns-then-boxes-jobs
returns-then-boxes-jobs c = (
  λ wrong. absurd (true≢false (sym wrong)),
  λ have. absurd (let long = same_length IsMadeFor c.args.boxes.now c.args.jobs.now have.boxes_fit in omega (arith, long, c.if-boxes-jobs.true)),
)
