use Rattle.std.proofs.Common.{◌≡◌, true, eqb, ap, sym, subst, ◌∙◌}
use Rattle.std.specs.List.{filter_map}
use Rattle.std.proofs.lemmas.List.Elements.{All-filter}
use Rattle.controller_host.specs.Sources.{source_in}
use Rattle.bc_machine.specs.declared.placed.Placed.{Placed}
use Rattle.bc_machine.specs.Asking.{controls_at, with_controls}
use Rattle.bc_machine.specs.Controller.{control_of}
use Rattle.bc_machine.specs.Rows.{all_placed}
use Rattle.bc_machine.specs.Schedules.{ScheduleState, HaveRoom, MayControl, sets_sources}
use Rattle.bc_machine.proofs.Asked.{no_controls}
use Rattle.bc_machine.proofs.schedule.Schedule.set_from.Goals as goal

pub set_at-requires-clause-ready : goal.set_at-requires-clause-ready
set_at-requires-clause-ready c =
    let ready = c.self.inside.sources.ready in
    let acts = c.args.other.now.actions in
    subst (HaveRoom ready) (sym c.rows_at.ensures.same)
    (All-filter (λ (p : Placed). eqb p.number c.args.number) (λ (p : Placed). sets_sources p.action ≡ true → ready ≡ true) acts
    (subst (λ (s : ScheduleState). HaveRoom s.sources.ready acts) (sym c.self.view_is) c.requires))

pub invariant_of-self : goal.invariant_of-self
invariant_of-self c =
    let is = c.self.invariant in
    let ready = c.set_at.ensures.ready in
    record {
      rows = is.rows;
      found = is.found;
      within = is.within;
      room = is.room;
      beside = is.beside;
      few = is.few;
      controls = is.controls;
      sets = subst (λ b. HaveRoom b (all_placed c.self.inside.beside.lists c.self.inside.rows.items)) (sym ready) is.sets;
      ready = λ less. ready ∙ is.ready less;
    }

pub returns-then-not-has_controls-clause-sources : goal.returns-then-not-has_controls-clause-sources
returns-then-not-has_controls-clause-sources c d place is =
    let acts = c.args.other.now.actions in
    sym (ap (λ cs. with_controls cs (source_in c.args.self.now.sources.rows d place) d place)
    (no_controls c.args.number acts (subst (λ b. MayControl b acts) c.if-not-has_controls.true c.has_controls.ensures)))

pub returns-clause-same : goal.returns-clause-same
returns-clause-same c = (
  ap (λ (s : ScheduleState). s.actions) c.self.view_is,
  ap (λ (s : ScheduleState). s.capacity) c.self.view_is,
  c.set_at.ensures.ready ∙ ap (λ (s : ScheduleState). s.sources.ready) c.self.view_is,
)

pub returns-clause-sources : goal.returns-clause-sources
returns-clause-sources c d place is =
    let n = c.args.number in
    c.set_at.ensures.sources d place is
    ∙ ap (λ ps. with_controls (filter_map control_of ps) (source_in c.self.inside.sources.rows d place) d place) c.rows_at.ensures.same
    ∙ ap (λ (s : ScheduleState). with_controls (controls_at n c.args.other.now.actions) (source_in s.sources.rows d place) d place) c.self.view_is
