use Rattle.std.proofs.Common.{◌+◌, take, sym, subst}
use Rattle.job_file.specs.declared.error.JobError.TheVariants as error
use Rattle.job_file.proofs.TextLemmas.{SpelledSoFar, first_refused, all_spelled, pushed, one_spelled, one_accepted}
use Rattle.job_file.proofs.texts.read_jobs.Goals as goal

pub returns-in-Err-clause-refused : goal.returns-in-Err-clause-refused
returns-in-Err-clause-refused c =
    first_refused c.args.texts.now c.loop-index.index _ c.in-Err.fault c.loop-index-test.true c.loop-index.invariant.accepted c.in-Err.ensures.refused c.in-Err.ensures.first

pub returns-clause-jobs : goal.returns-clause-jobs
returns-clause-jobs c = all_spelled c.args.texts.now c.loop-index.jobs.items c.loop-index.index c.loop-index-test.false c.loop-index.invariant.jobs

pub returns-then-is_err-clause-refused : goal.returns-then-is_err-clause-refused
returns-then-is_err-clause-refused c =
    first_refused c.args.texts.now c.loop-index.index _ error.Memory c.loop-index-test.true c.loop-index.invariant.accepted tt c.in-Ok.ensures.room

pub loop-index-preserved : goal.loop-index-preserved
loop-index-preserved c =
    let i = c.loop-index.invariant in
    let items = pushed c.push.result c.push.new.self.items c.loop-index.jobs.items c.in-Ok.job (sym c.if-is_err.ensures.value) c.push.ensures.items in
    record {
      jobs =
          subst (SpelledSoFar (take (c.loop-index.index + 1) c.args.texts.now)) (sym items)
          (one_spelled c.args.texts.now c.loop-index.index _ c.loop-index-test.true c.loop-index.jobs.items c.in-Ok.job i.jobs c.in-Ok.ensures.job);
      accepted = one_accepted c.args.texts.now c.loop-index.index _ c.loop-index-test.true i.accepted c.in-Ok.ensures.accepted;
    }
