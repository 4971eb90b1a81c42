use Rattle.std.proofs.Common.{◌≡◌, List, ◌++◌, ◌∷◌, [], length, true, sym, ap, subst, ◌∙◌, arith}
use Rattle.std.specs.Prelude.{All, ◌||◌}
use Rattle.bc_machine.specs.declared.placed.Placed.{Placed}
use Rattle.bc_machine.specs.declared.action_rows.Row.{Row}
use Rattle.bc_machine.specs.Beside.{BesideLists, IsMore}
use Rattle.bc_machine.specs.Rows.{all_placed, IsRow}
use Rattle.bc_machine.specs.Schedules.{ScheduleState, AreRising, HaveRoom, MayControl, sets_sources, is_control}
use Rattle.bc_machine.proofs.Listed.{added_rows, added_placed}
use Rattle.bc_machine.proofs.Marks.{more_room, more_control}
use Rattle.bc_machine.proofs.schedule.Schedule.push_new.Goals as goal

pub follows-rising-requires : goal.follows-rising-requires
follows-rising-requires c = λ above.
    subst AreRising (sym (c.as_slice.ensures.value ∙ c.reserve.ensures.items))
    (c.is_rising.ensures c.self.inside.beside.lists c.self.inside.rows.items c.self.invariant.found above)

pub of-requires-clause-few : goal.of-requires-clause-few
of-requires-clause-few c = omega (arith, ap (λ (v : BesideLists). length v.wholes) c.reserve_for.ensures.lists, c.if-count_wholes-ge-MOST_BESIDE.false, c.count_wholes.ensures)

pub invariant_of-self-2 : goal.invariant_of-self-2
invariant_of-self-2 c =
    let is = c.self.invariant in
    let old = c.self.inside.beside.lists in
    let new = c.of.new.beside.lists in
    let rows = c.self.inside.rows.items in
    let same = c.reserve_for.ensures.lists in
    let more = subst (λ (v : BesideLists). IsMore v new) same c.of.ensures.more in
    let few = more.few in
    let was : length c.reserve_for.new.self.lists.wholes ≡ length old.wholes = ap (λ (v : BesideLists). length v.wholes) same in
    let items : c.push_reserved.new.self.items ≡ rows ++ c.of.result ∷ [] = c.push_reserved.ensures.items ∙ ap (λ (rs : List Row). rs ++ c.of.result ∷ []) c.reserve.ensures.items in
    let placed = ap (all_placed new) items ∙ added_placed old new rows c.of.result more is.rows c.of.ensures.row c.args.one c.of.ensures.placed in
    let marks : c.one_of-self-inside.result ≡ (c.self.inside.controls || is_control c.args.one.action) = c.one_of-self-inside.ensures ∙ ap (λ b. c.self.inside.controls || b) c.is_control.ensures in
    let source : sets_sources c.args.one.action ≡ true → c.self.inside.sources.ready ≡ true = subst (λ (s : ScheduleState). sets_sources c.args.one.action ≡ true → s.sources.ready ≡ true) (sym c.self.view_is) c.requires in
    record {
      rows = subst (All (IsRow new)) (sym items) (added_rows old new rows c.of.result more is.rows c.of.ensures.row);
      found = c.reset.ensures new c.push_reserved.new.self.items (λ above. subst AreRising (sym c.push_reserved.ensures.items) (subst (λ (rs : List Row). AreRising (rs ++ c.of.result ∷ [])) c.as_slice.ensures.value
          (c.follows-rising.ensures c.of.result (ap (λ (p : Placed). p.number) c.of.ensures.placed) above)));
      within = omega (arith, c.len-self-inside.ensures);
      room = omega (arith, c.len-self-inside.ensures, c.push_reserved.ensures.len, c.push_reserved.ensures.capacity, c.reserve.ensures.len, c.in_ok-reserve.ensures.ok);
      beside = omega (arith, c.len-self-inside.ensures, c.of.ensures.capacity, was, few, c.in_ok-reserve_for.ensures.room);
      few = omega (arith, c.len-self-inside.ensures, few, c.if-count_wholes-ge-MOST_BESIDE.false, c.count_wholes.ensures);
      controls = subst (λ b. MayControl b (all_placed new c.push_reserved.new.self.items)) (sym marks)
          (subst (MayControl (c.self.inside.controls || is_control c.args.one.action)) (sym placed) (more_control c.self.inside.controls (all_placed old rows) c.args.one is.controls));
      sets = subst (HaveRoom c.self.inside.sources.ready) (sym placed) (more_room c.self.inside.sources.ready (all_placed old rows) c.args.one is.sets source);
      ready = λ less. absurd (omega (arith, less, c.len-self-inside.ensures));
    }

pub returns-clause-pushed : goal.returns-clause-pushed
returns-clause-pushed c =
    let old = c.self.inside.beside.lists in
    let new = c.of.new.beside.lists in
    let rows = c.self.inside.rows.items in
    let more = subst (λ (v : BesideLists). IsMore v new) c.reserve_for.ensures.lists c.of.ensures.more in
    let items : c.push_reserved.new.self.items ≡ rows ++ c.of.result ∷ [] = c.push_reserved.ensures.items ∙ ap (λ (rs : List Row). rs ++ c.of.result ∷ []) c.reserve.ensures.items in
    ap (all_placed new) items
    ∙ added_placed old new rows c.of.result more c.self.invariant.rows c.of.ensures.row c.args.one c.of.ensures.placed
    ∙ ap (λ (s : ScheduleState). s.actions ++ c.args.one ∷ []) c.self.view_is
