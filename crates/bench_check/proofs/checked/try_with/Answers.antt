use Rattle.std.proofs.Common.{List, ◌++◌, ap, ◌∙◌}
use Rattle.job_file.specs.Jobs.{job_in}
use Rattle.bench_check.specs.declared.fitting.Tight.{Tight}
use Rattle.bench_check.specs.Mistakes.{mistakes}
use Rattle.bench_check.proofs.checked.try_with.Goals as goal

pub returns-clause-found : goal.returns-clause-found
returns-clause-found g c = λ spelled.
    let job = c.args.job.now in
    record {
      made = c.in_ok-findings.ensures.made;
      unmet = c.in_ok-findings.ensures.unmet;
      overruns = c.in_ok-findings.ensures.overruns;
      room = c.in_ok-findings.ensures.room;
      lines = c.in_ok-lines.lines.mistakes.items;
      none = c.in_ok-lines.ensures;
      all =
          c.in_ok-mistakes.ensures
          ∙ ap (λ (ts : List Tight). c.in_ok-lines.lines.mistakes.items ++ mistakes c.args.is_all job c.in_ok-findings.findings ts)
          (c.as_slice.ensures.value ∙ c.in_ok-tight.ensures (job_in job) spelled);
    }
