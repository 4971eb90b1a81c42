use Rattle.std.proofs.Common.{◌≡◌, ◌<◌, List, ◌++◌, ◌∷◌, [], length, vec_len, true, sym, ap, subst, ◌∙◌, arith, rules}
use Rattle.std.specs.Prelude.{All, ◌||◌}
use Rattle.std.proofs.lemmas.List.{length-map}
use Rattle.bc_machine.specs.declared.placed.Placed.{Placed}
use Rattle.bc_machine.specs.declared.action_rows.Row.{Row}
use Rattle.bc_machine.specs.Rows.{placed_of, all_placed, IsRow}
use Rattle.bc_machine.specs.Schedules.{ScheduleState, AreRising, HaveRoom, MayControl, sets_sources, is_control, with_action}
use Rattle.bc_machine.proofs.Listed.{added_rows, added_placed}
use Rattle.bc_machine.proofs.Marks.{more_room, more_control}
use Rattle.bc_machine.proofs.schedule.Schedule.put_behind.Goals as goal

pub invariant_of-self : goal.invariant_of-self
invariant_of-self c =
    let is = c.self.invariant in
    let old = c.self.inside.beside.lists in
    let new = c.of.new.beside.lists in
    let rows = c.self.inside.rows in
    let long : length rows.items ≡ vec_len rows = search rules in
    let few = c.of.ensures.more.few in
    let items = c.push_reserved.ensures.items in
    let room : length (all_placed old rows.items) < c.self.inside.most = subst (λ (s : ScheduleState). length s.actions < s.capacity) (sym c.self.view_is) c.requires.room in
    let all = length-map rows.items (placed_of old) in
    let placed = ap (all_placed new) items ∙ added_placed old new rows.items c.of.result c.of.ensures.more is.rows c.of.ensures.row c.args.one c.of.ensures.placed in
    let marks : c.one_of-self-inside.result ≡ (c.self.inside.controls || is_control c.args.one.action) = c.one_of-self-inside.ensures ∙ ap (λ b. c.self.inside.controls || b) c.is_control.ensures in
    let source : sets_sources c.args.one.action ≡ true → c.self.inside.sources.ready ≡ true = subst (λ (s : ScheduleState). sets_sources c.args.one.action ≡ true → s.sources.ready ≡ true) (sym c.self.view_is) c.requires.ready in
    record {
      rows = subst (All (IsRow new)) (sym items) (added_rows old new rows.items c.of.result c.of.ensures.more is.rows c.of.ensures.row);
      found = c.reset.ensures new c.push_reserved.new.self.items (λ above. subst AreRising (sym items) (subst (λ (rs : List Row). AreRising (rs ++ c.of.result ∷ [])) c.as_slice.ensures.value
          (c.follows-rising.ensures c.of.result (ap (λ (p : Placed). p.number) c.of.ensures.placed) above)));
      within = omega (arith, c.push_reserved.ensures.len, room, all, long);
      room = omega (arith, c.push_reserved.ensures.capacity, is.room);
      beside = omega (arith, c.push_reserved.ensures.len, c.of.ensures.capacity, few, is.beside);
      few = omega (arith, c.push_reserved.ensures.len, few, is.few);
      controls = subst (λ b. MayControl b (all_placed new c.push_reserved.new.self.items)) (sym marks)
          (subst (MayControl (c.self.inside.controls || is_control c.args.one.action)) (sym placed) (more_control c.self.inside.controls (all_placed old rows.items) c.args.one is.controls));
      sets = subst (HaveRoom c.self.inside.sources.ready) (sym placed) (more_room c.self.inside.sources.ready (all_placed old rows.items) c.args.one is.sets source);
      ready = λ less. is.ready (omega (arith, less, c.push_reserved.ensures.len));
    }

pub returns : goal.returns
returns c =
    let old = c.self.inside.beside.lists in
    let new = c.of.new.beside.lists in
    let placed = ap (all_placed new) c.push_reserved.ensures.items ∙ added_placed old new c.self.inside.rows.items c.of.result c.of.ensures.more c.self.invariant.rows c.of.ensures.row c.args.one c.of.ensures.placed in
    ap (λ (ps : List Placed). record { actions = ps; capacity = c.self.inside.most; sources = c.self.inside.sources }) placed
    ∙ ap (λ (s : ScheduleState). with_action s c.args.one) c.self.view_is

pub follows-rising-requires : goal.follows-rising-requires
follows-rising-requires c = λ above.
    subst AreRising (sym c.as_slice.ensures.value)
    (c.is_rising.ensures c.self.inside.beside.lists c.self.inside.rows.items c.self.invariant.found above)
