use Rattle.std.proofs.Common.{ap, subst, sym, ◌∙◌}
use Rattle.controller_host.specs.Sources.{source_in}
use Rattle.bc_machine.specs.Asking.{controls_at, with_controls}
use Rattle.bc_machine.specs.Schedules.{HaveRoom}
use Rattle.bc_machine.proofs.Asked.{controls_then}
use Rattle.bc_machine.proofs.Filled.{controls_both}
use Rattle.bc_machine.proofs.schedule.Schedule.set_sources.Goals as goal

pub set_from-requires : goal.set_from-requires
set_from-requires c = subst (λ ready. HaveRoom ready c.args.other.now.actions) (sym c.set_own.ensures.same.2) c.requires

pub returns-clause-sources : goal.returns-clause-sources
returns-clause-sources c d place is =
    let n = c.args.number in
    let first = controls_at n c.args.self.now.actions in
    let second = controls_at n c.args.other.now.actions in
    let was = source_in c.args.self.now.sources.rows d place in
    c.set_from.ensures.sources d place is
    ∙ ap (λ o. with_controls second o d place) (c.set_own.ensures.sources d place is)
    ∙ sym (controls_then first second was d place)
    ∙ ap (λ cs. with_controls cs was d place) (sym (controls_both n c.args.self.now.actions c.args.other.now.actions))
