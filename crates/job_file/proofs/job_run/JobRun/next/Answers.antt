use Rattle.job_file.proofs.Fewness.{few_where_next}
use Rattle.job_file.proofs.job_run.JobRun.next.Goals as goal

pub returns-in-Some-clause-few : goal.returns-in-Some-clause-few
returns-in-Some-clause-few c =
    few_where_next c.loadable_runs.ensures.messages c.next_message_is_sent.ensures c.args.self.now.machine c.in-Some.next c.requires.under_way c.in-Some.ensures.value
