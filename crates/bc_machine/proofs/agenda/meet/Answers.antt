use Rattle.std.proofs.Common.{sym, subst}
use Rattle.bc_machine.specs.Schedules.{ScheduleState, HaveRoom}
use Rattle.bc_machine.proofs.Marks.{room_right}
use Rattle.bc_machine.proofs.agenda.meet.Goals as goal

pub set_sources-requires : goal.set_sources-requires
set_sources-requires c =
    subst (λ (s : ScheduleState). HaveRoom s.sources.ready c.args.posted.now.actions) (sym c.draw_near.ensures)
    (room_right c.args.placed.now.sources.ready c.args.placed.now.actions c.args.posted.now.actions c.requires)
