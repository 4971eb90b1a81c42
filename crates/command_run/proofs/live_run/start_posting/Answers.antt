use Rattle.std.proofs.Common.{subst, sym}
use Rattle.bench_run.specs.Live.{AreInboxesOf}
use Rattle.bench_live.specs.declared.desk.Desk.{Desk}
use Rattle.command_run.proofs.live_run.start_posting.Goals as goal

pub returns : goal.returns
returns g c =
    subst (λ (d : Desk). AreInboxesOf d.boxes.items c.in-Ok.inboxes.items) (sym c.in-Ok-new.ensures.ok) c.in-Ok.ensures.ends
