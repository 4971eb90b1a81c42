use Rattle.std.proofs.Common.{IfOk, IfErr, subst}
use Rattle.bench_run.specs.Live.{AreInboxesOf}
use Rattle.bench_live.proofs.live.LiveRun.record_live.Goals as goal

pub returns-clause-ends : goal.returns-clause-ends
returns-clause-ends g c =
    subst (λ boxes. IfOk c.run_live-answer.result (λ r. AreInboxesOf boxes r.1.items)) c.deref.ensures.value c.run_live-answer.ensures.ends

pub returns-clause-back : goal.returns-clause-back
returns-clause-back g c =
    subst (λ boxes. IfErr c.run_live-answer.result (λ e. AreInboxesOf boxes e.inboxes.items)) c.deref.ensures.value c.run_live-answer.ensures.back
