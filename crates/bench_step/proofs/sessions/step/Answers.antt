use Rattle.std.proofs.Common.{refl, inl, inr}
use Rattle.std.proofs.lemmas.Result.{err_from_is_err_and}
use Rattle.bench_step.proofs.GoingOn.{through, begun}
use Rattle.bench_step.proofs.sessions.step.Goals as goal

pub returns-clause-whole : goal.returns-clause-whole
returns-clause-whole g c = (
  c.in_ok-session.session.debugger.jobs,
  c.in_ok-session.ensures.shown,
  through c.args.manner _ c.in_ok-session.session.debugger.jobs c.args.report.now.channels c.args.recording.now _ _ _ _ _ _ _ _ c.in_ok-session.ensures.accepted
      c.in_ok-session.ensures.ok c.in_ok-session.ensures.manner
      c.if-branch.false c.in_ok-answer_all.ensures.all,
)

pub returns-in_err-answer_all-clause-ended : goal.returns-in_err-answer_all-clause-ended
returns-in_err-answer_all-clause-ended g c =
    let p = err_from_is_err_and c.from_residual-in_err-answer_all.result c.from_residual-in_err-answer_all.ensures.1 in
    let cut = begun c.args.manner _ c.in_ok-session.session.debugger.jobs c.args.report.now.channels c.args.recording.now _ _ _ _ _ c.in_ok-session.ensures.accepted
    c.in_ok-session.ensures.ok c.in_ok-session.ensures.manner c.in_err-answer_all.ensures.first in
    rw (p.1, p.2) (inr (c.in_ok-session.session.debugger.jobs, c.in_ok-session.ensures.shown, inl cut))

pub returns-then-branch-clause-ended : goal.returns-then-branch-clause-ended
returns-then-branch-clause-ended g c =
    inr (
      c.in_ok-session.session.debugger.jobs,
      c.in_ok-session.ensures.shown,
      inr (
        refl,
        through c.args.manner _ c.in_ok-session.session.debugger.jobs c.args.report.now.channels c.args.recording.now _ _ _ _ _ _ _ _ c.in_ok-session.ensures.accepted
            c.in_ok-session.ensures.ok c.in_ok-session.ensures.manner
            c.if-branch.true c.in_ok-answer_all.ensures.all,
      ),
    )
