use Rattle.std.proofs.Common.{◌≡◌, ◌+◌, [], drop, length, ap, subst, arith}
use Rattle.bc_machine.specs.Agendas.{AgendaState, inserts_among}
use Rattle.bc_machine.specs.Asking.{IsInsertAt}
use Rattle.bc_machine.specs.Hosting.{placed_at}
use Rattle.bc_machine.proofs.Queued.{at_left_of, at_right_of, none_of_both, within_both}
use Rattle.bc_machine.proofs.agenda.Agenda.insert_at.Goals as goal

pub returns-in-Some-clause-there : goal.returns-in-Some-clause-there
returns-in-Some-clause-there c =
    let a = c.self.inside in
    subst (λ (s : AgendaState). IsInsertAt (placed_at c.args.number s.placed) c.args.passed c.in-Some.found.0 c.in-Some.found.1) c.self.view_is
    (at_left_of c.args.number a.placed.actions a.posted.actions c.args.passed c.in-Some.found.0 c.in-Some.found.1 c.in-Some.ensures.there)

pub overflow_add-result : goal.overflow_add-result
overflow_add-result c =
    let a = c.self.inside in
    omega (
      arith,
      within_both c.args.number a.placed.actions a.posted.actions c.saturating_sub.result c.count_at-own.result c.in-Some-insert_at.place c.in-Some-insert_at.insertion c.count_at-own.ensures c.in-Some-insert_at.ensures.there,
      c.count-count.ensures,
      ap (λ (s : AgendaState). length s.placed) c.self.view_is,
    )

pub returns-in-Some-insert_at-clause-there : goal.returns-in-Some-insert_at-clause-there
returns-in-Some-insert_at-clause-there c =
    let a = c.self.inside in
    let n = c.args.number in
    let own = c.count_at-own.result in
    let place = c.in-Some-insert_at.place in
    let x = c.in-Some-insert_at.insertion in
    subst (λ (s : AgendaState). IsInsertAt (placed_at n s.placed) c.args.passed (own + place) x) c.self.view_is
    (at_right_of n a.placed.actions a.posted.actions c.args.passed own place x c.count_at-own.ensures c.in_default.ensures.none
    (subst (λ k. IsInsertAt (placed_at n a.posted.actions) k place x) c.saturating_sub.ensures c.in-Some-insert_at.ensures.there))

pub returns-in-None-clause-none : goal.returns-in-None-clause-none
returns-in-None-clause-none c =
    let a = c.self.inside in
    let n = c.args.number in
    subst (λ (s : AgendaState). inserts_among (drop c.args.passed (placed_at n s.placed)) ≡ []) c.self.view_is
    (none_of_both n a.placed.actions a.posted.actions c.args.passed c.count_at-own.result c.count_at-own.ensures c.in_default.ensures.none
    (subst (λ k. inserts_among (drop k (placed_at n a.posted.actions)) ≡ []) c.saturating_sub.ensures c.in-None.ensures.none))
