use Rattle.std.proofs.Common.{◌≡◌, true, ap, subst, ◌∙◌, arith, rules}
use Rattle.std.specs.List.Sorted.{IsPermutation}
use Rattle.std.proofs.lemmas.List.Sorted.{answers_always, IsNonDecreasingBy-from_sort_by_key, IsPermutation-map, All-permutation}
use Rattle.bc_machine.specs.declared.placed.Placed.{Placed}
use Rattle.bc_machine.specs.declared.action_rows.Row.{Row}
use Rattle.bc_machine.specs.Controller.{placed_at}
use Rattle.bc_machine.specs.Rising.{IsRising}
use Rattle.bc_machine.specs.Rows.{placed_of, all_placed, IsRow}
use Rattle.bc_machine.specs.Schedules.{ScheduleState, is_control, sets_sources}
use Rattle.bc_machine.proofs.Listed.{rising_placed, sorted_at}
use Rattle.bc_machine.proofs.schedule.Schedule.sort.Goals as goal

pub invariant_of-self-then-not-is_rising : goal.invariant_of-self-then-not-is_rising
invariant_of-self-then-not-is_rising c =
    let is = c.self.invariant in
    let beside = c.self.inside.beside.lists in
    let turned : IsPermutation (all_placed beside c.self.inside.rows.items) (all_placed beside c.sort_by_key.new.self.items) =
    IsPermutation-map (placed_of beside) c.self.inside.rows.items c.sort_by_key.new.self.items c.sort_by_key.ensures.permutation in
    record {
      rows = All-permutation (IsRow c.self.inside.beside.lists) c.self.inside.rows.items c.sort_by_key.new.self.items c.sort_by_key.ensures.permutation is.rows;
      found = c.reset.ensures c.self.inside.beside.lists c.sort_by_key.new.self.items (λ above. IsNonDecreasingBy-from_sort_by_key (λ (r : Row). r.number) _ c.in_ok-sort_by_key.ensures.sorted (λ a r q k. search rules));
      within = omega (arith, c.sort_by_key.ensures.len, is.within);
      room = omega (arith, c.sort_by_key.ensures.capacity, is.room);
      beside = omega (arith, c.sort_by_key.ensures.len, is.beside);
      few = omega (arith, c.sort_by_key.ensures.len, is.few);
      controls = All-permutation (λ (p : Placed). is_control p.action ≡ true → c.self.inside.controls ≡ true) _ _ turned is.controls;
      sets = All-permutation (λ (p : Placed). sets_sources p.action ≡ true → c.self.inside.sources.ready ≡ true) _ _ turned is.sets;
      ready = λ less. is.ready (omega (arith, less, c.sort_by_key.ensures.len));
    }

pub returns-in_ok-sort_by_key-clause-permutation : goal.returns-in_ok-sort_by_key-clause-permutation
returns-in_ok-sort_by_key-clause-permutation c =
    let beside = c.self.inside.beside.lists in
    subst (λ (s : ScheduleState). IsPermutation s.actions (all_placed beside c.sort_by_key.new.self.items)) c.self.view_is
    (IsPermutation-map (placed_of beside) c.self.inside.rows.items c.sort_by_key.new.self.items c.sort_by_key.ensures.permutation)

pub returns-in_ok-sort_by_key-clause-rising : goal.returns-in_ok-sort_by_key-clause-rising
returns-in_ok-sort_by_key-clause-rising c =
    rising_placed c.self.inside.beside.lists c.sort_by_key.new.self.items
    (IsNonDecreasingBy-from_sort_by_key (λ (r : Row). r.number) _ c.in_ok-sort_by_key.ensures.sorted (λ a r q k. search rules))

pub returns-in_ok-sort_by_key-clause-stable : goal.returns-in_ok-sort_by_key-clause-stable
returns-in_ok-sort_by_key-clause-stable c = λ n.
    sorted_at c.self.inside.beside.lists c.self.inside.rows.items c.sort_by_key.new.self.items
    (c.in_ok-sort_by_key.ensures.stable (λ (r : Row). r.number) (answers_always _ _ _ (λ f a r q k. search rules))) n
    ∙ ap (λ (s : ScheduleState). placed_at n s.actions) c.self.view_is

pub returns-else-not-is_rising-clause-rising : goal.returns-else-not-is_rising-clause-rising
returns-else-not-is_rising-clause-rising c =
    subst (λ (s : ScheduleState). IsRising s.actions) c.self.view_is
    (rising_placed c.self.inside.beside.lists c.self.inside.rows.items (c.is_rising.ensures c.self.inside.beside.lists c.self.inside.rows.items c.self.invariant.found (search rules)))
