use Rattle.std.proofs.Common.{◌≡◌, ◌<◌, length, vec_len, sym, subst, ◌∙◌, arith, rules}
use Rattle.std.proofs.lemmas.List.{length-map}
use Rattle.bc_machine.specs.Rows.{placed_of, all_placed}
use Rattle.bc_machine.specs.Schedules.{ScheduleState, HaveRoom}
use Rattle.bc_machine.proofs.schedule.Schedule.is_ready.Goals as goal

pub returns-clause-sets : goal.returns-clause-sets
returns-clause-sets c =
    subst (λ (s : ScheduleState). HaveRoom c.is_ready.result s.actions) c.self.view_is
    (subst (λ b. HaveRoom b (all_placed c.self.inside.beside.lists c.self.inside.rows.items)) (sym c.is_ready.ensures) c.self.invariant.sets)

pub returns-clause-room : goal.returns-clause-room
returns-clause-room c less =
    let rows = c.self.inside.rows in
    let beside = c.self.inside.beside.lists in
    let long : length rows.items ≡ vec_len rows = search rules in
    let here : length (all_placed beside rows.items) < c.self.inside.most = subst (λ (s : ScheduleState). length s.actions < s.capacity) (sym c.self.view_is) less in
    c.is_ready.ensures ∙ c.self.invariant.ready (omega (arith, here, long, length-map rows.items (placed_of beside)))
