use Rattle.std.proofs.Common.{subst, sym}
use Rattle.bench_run.specs.Live.{AreInboxesOf}
use Rattle.bench_live.specs.declared.desk.Desk.{Desk}
use Rattle.command_run.proofs.live_run.record.Goals as goal

pub record_live-answer-requires-clause-ends : goal.record_live-answer-requires-clause-ends
record_live-answer-requires-clause-ends g c κs within =
    subst (λ (d : Desk). AreInboxesOf d.boxes.items c.in-Ok.inboxes.items) (sym c.deref.ensures) c.in-Ok.ensures
