use Rattle.std.proofs.Common.{ap}
use Rattle.bench_step.proofs.Refusing.{is_mismatch, differ_at, shown_again}
use Rattle.bench_step.proofs.opening.open_replay.Goals as goal

pub open_under-requires-clause-differ : goal.open_under-requires-clause-differ
open_under-requires-clause-differ c =
    differ_at c.deref.result.now c.args.jobs.items c.args.report.now.channels c.args.recording.now c.in-Err-Mismatch.field-0 c.deref.ensures.value c.difference_excludes_accord.ensures
    (ap is_mismatch c.in-Err-Mismatch.field-0-is) c.in-Err-Mismatch.ensures.refused

pub returns-in-Err-Mismatch-clause-shown : goal.returns-in-Err-Mismatch-clause-shown
returns-in-Err-Mismatch-clause-shown c =
    shown_again c.args.jobs.items c.args.report.now.channels c.args.recording.now c.open_under.result
    (differ_at c.deref.result.now c.args.jobs.items c.args.report.now.channels c.args.recording.now c.in-Err-Mismatch.field-0 c.deref.ensures.value c.difference_excludes_accord.ensures
    (ap is_mismatch c.in-Err-Mismatch.field-0-is) c.in-Err-Mismatch.ensures.refused)
    c.open_under.ensures.shown
