use Rattle.std.proofs.Common.{sym, subst}
use Rattle.job_file.specs.Jobs.{job_in}
use Rattle.job_file.specs.Resolving.{standing, IsWithin}
use Rattle.job_file.specs.Timed.{Standing}
use Rattle.job_file.proofs.BeginLemmas.{begins_at, run_gives}
use Rattle.job_file.proofs.resolving.run_to_end.Goals as goal

pub returns : goal.returns
returns c =
    let job = c.args.job.now in
    let begun = c.in_ok-run.ensures in
    let from = standing c.in_ok-run.run' in
    let to = standing c.go.new.self in
    let begins = begins_at from (job_in job) job.timed c.args.placed.now c.args.whens.now begun.beginning in
    record {
      last = to;
      end = run_gives (record (job_in job) { actions = c.args.placed.now }) (record job.timed { whens = c.args.whens.now }) from to c.in_ok-run.run'.faults.faults begins begun.faults c.in_ok-go.ensures.ended;
      acts = c.end.ensures.actions;
      plans = c.end.ensures.plan;
      under_way = c.in_ok-go.ensures.kept.under_way;
      ended = c.in_ok-go.ensures.ended.ended;
      within = λ addresses most within. c.in_ok-go.ensures.within addresses most (subst (λ (s : Standing). IsWithin addresses most s) (sym begins) within);
    }
