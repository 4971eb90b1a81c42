use Rattle.std.proofs.Common.{◌+◌, length, ap, sym, ◌∙◌, arith}
use Rattle.bc_machine.specs.Agendas.{AgendaState}
use Rattle.bc_machine.specs.Asking.{controls_at, filled_by}
use Rattle.bc_machine.specs.Hosting.{source_at, sent_form}
use Rattle.controller_host.specs.Sources.{source_in, sourced}
use Rattle.bc_machine.proofs.Carried.{source_next}
use Rattle.bc_machine.proofs.Filled.{sourced_same, filled_is, filled_both, controls_both}
use Rattle.bc_machine.proofs.Kept.{all_of}
use Rattle.bc_machine.proofs.agenda.Agenda.coming_own.Goals as goal

pub overflow_add-number : goal.overflow_add-number
overflow_add-number c = omega (arith, c.self.invariant.number, c.requires, ap (λ (s : AgendaState). length s.made) c.self.view_is)

pub returns : goal.returns
returns c =
    let a = c.self.inside in
    let m = c.args.message.now in
    let n = length a.made + 1 in
    let rows = source_in a.placed.sources.rows in
    let first = controls_at (a.number + 1) a.placed.actions in
    let second = controls_at (a.number + 1) a.posted.actions in
    c.fill_at-2.ensures
    ∙ ap (filled_by second) (c.fill_at.ensures ∙ ap (filled_by first) c.filled-sent.ensures)
    ∙ sym (filled_both first second (sourced rows m))
    ∙ ap (λ cs. filled_by cs (sourced rows m)) (sym (controls_both (a.number + 1) a.placed.actions a.posted.actions))
    ∙ ap (λ k. filled_by (controls_at (k + 1) (all_of a)) (sourced rows m)) c.self.invariant.number
    ∙ filled_is (controls_at n (all_of a)) rows m
    ∙ sourced_same _ (source_at n (all_of a) a.made) m c.form-form.ensures.lawful (λ d place is. source_next d place (all_of a) a.made (rows d place) (c.self.invariant.sources d place is))
    ∙ ap (λ (s : AgendaState). sent_form s.placed s.made m) c.self.view_is
