use Rattle.std.proofs.Common.{◌≡◌, ◌<◌, length, vec_len, sym, ap, subst, ◌∙◌, arith, rules}
use Rattle.std.specs.Prelude.{All, ◌||◌}
use Rattle.std.specs.List.{insert}
use Rattle.std.proofs.lemmas.List.{length-map}
use Rattle.bc_machine.specs.Rows.{placed_of, all_placed, IsRow}
use Rattle.bc_machine.specs.Schedules.{ScheduleState, HaveRoom, MayControl, is_control}
use Rattle.bc_machine.proofs.Marks.{put_room, put_control}
use Rattle.bc_machine.proofs.Listed.{put_rows, put_placed}
use Rattle.bc_machine.proofs.schedule.Schedule.put_in.Goals as goal

pub invariant_of-self : goal.invariant_of-self
invariant_of-self c =
    let is = c.self.invariant in
    let old = c.self.inside.beside.lists in
    let new = c.of-row.new.beside.lists in
    let rows = c.self.inside.rows in
    let long : length rows.items ≡ vec_len rows = search rules in
    let room : length (all_placed old rows.items) < c.self.inside.most = subst (λ (s : ScheduleState). length s.actions < s.capacity) (sym c.self.view_is) c.requires.room in
    let all = length-map rows.items (placed_of old) in
    let few = c.of-row.ensures.more.few in
    let at = c.behind-place.result in
    let ps = all_placed old rows.items in
    let marks : c.one_of-self-inside.result ≡ (c.self.inside.controls || is_control c.args.one.action) = c.one_of-self-inside.ensures ∙ ap (λ b. c.self.inside.controls || b) c.is_control.ensures in
    let placed = ap (all_placed new) c.insert_row.ensures.rows ∙ put_placed old new rows.items c.of-row.result c.of-row.ensures.more is.rows c.of-row.ensures.row at c.args.one c.of-row.ensures.placed in
    record {
      rows = subst (All (IsRow new)) (sym c.insert_row.ensures.rows) (put_rows old new rows.items c.of-row.result c.of-row.ensures.more is.rows c.of-row.ensures.row c.behind-place.result);
      found = c.reset.ensures new c.insert_row.new.rows.items (λ above. absurd (search rules));
      within = omega (arith, c.insert_row.ensures.len, room, all, long);
      room = omega (arith, c.insert_row.ensures.capacity, is.room);
      beside = omega (arith, c.insert_row.ensures.len, c.of-row.ensures.capacity, few, is.beside);
      few = omega (arith, c.insert_row.ensures.len, few, is.few);
      controls = subst (λ b. MayControl b (all_placed new c.insert_row.new.rows.items)) (sym marks)
          (subst (MayControl (c.self.inside.controls || is_control c.args.one.action)) (sym placed) (put_control c.self.inside.controls ps c.args.one at is.controls));
      sets = subst (HaveRoom c.self.inside.sources.ready) (sym placed) (put_room c.self.inside.sources.ready ps c.args.one at is.sets (λ sets. is.ready (omega (arith, room, all, long))));
      ready = λ less. is.ready (omega (arith, less, c.insert_row.ensures.len));
    }

pub returns-clause-put : goal.returns-clause-put
returns-clause-put c =
    let old = c.self.inside.beside.lists in
    let new = c.of-row.new.beside.lists in
    let at = c.behind-place.result in
    record {
      place = at;
      parted = c.behind-place.ensures.parted;
      is = ap (all_placed new) c.insert_row.ensures.rows
          ∙ put_placed old new c.self.inside.rows.items c.of-row.result c.of-row.ensures.more c.self.invariant.rows c.of-row.ensures.row at c.args.one c.of-row.ensures.placed
          ∙ ap (λ (s : ScheduleState). insert s.actions at c.args.one) c.self.view_is;
    }
