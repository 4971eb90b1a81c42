use Rattle.std.proofs.Common.{◌≡◌, true, take, sym, ap, subst, ◌∙◌, arith}
use Rattle.std.specs.Prelude.{All}
use Rattle.std.proofs.lemmas.List.{take-map}
use Rattle.std.proofs.lemmas.List.Elements.{All-take}
use Rattle.std.proofs.lemmas.List.Sorted.{IsNonDecreasingBy-take}
use Rattle.bc_machine.specs.declared.placed.Placed.{Placed}
use Rattle.bc_machine.specs.declared.action_rows.Row.{Row}
use Rattle.bc_machine.specs.Rows.{placed_of, all_placed, IsRow}
use Rattle.bc_machine.specs.Schedules.{ScheduleState, AreRising, HaveRoom, MayControl, is_control, sets_sources}
use Rattle.bc_machine.proofs.schedule.Schedule.truncate.Goals as goal

pub invariant_of-self : goal.invariant_of-self
invariant_of-self c =
    let is = c.self.invariant in
    let old = c.self.inside.rows.items in
    let items = c.truncate.ensures.items in
    let beside = c.self.inside.beside.lists in
    let ps = all_placed beside old in
    let placed : all_placed beside c.truncate.new.self.items ≡ take c.args.count ps = ap (all_placed beside) items ∙ sym (take-map (placed_of beside) c.args.count old) in
    record {
      rows = subst (All (IsRow beside)) (sym items) (All-take (IsRow beside) c.args.count old is.rows);
      found = c.reset.ensures beside c.truncate.new.self.items (λ above. subst AreRising (sym items)
          (IsNonDecreasingBy-take (λ (r : Row). r.number) c.args.count old (c.is_rising-rising.ensures beside old is.found above)));
      within = omega (arith, c.len-self-inside.ensures);
      room = omega (arith, c.len-self-inside.ensures, c.truncate.ensures.len, c.truncate.ensures.capacity, is.within, is.room);
      beside = omega (arith, c.len-self-inside.ensures, is.within, is.beside);
      few = omega (arith, c.len-self-inside.ensures, is.within, is.few);
      controls = subst (MayControl c.self.inside.controls) (sym placed) (All-take (λ (p : Placed). is_control p.action ≡ true → c.self.inside.controls ≡ true) c.args.count ps is.controls);
      sets = subst (HaveRoom c.self.inside.sources.ready) (sym placed) (All-take (λ (p : Placed). sets_sources p.action ≡ true → c.self.inside.sources.ready ≡ true) c.args.count ps is.sets);
      ready = λ less. absurd (omega (arith, less, c.len-self-inside.ensures));
    }

pub returns : goal.returns
returns c =
    let beside = c.self.inside.beside.lists in
    ap (all_placed beside) c.truncate.ensures.items
    ∙ sym (take-map (placed_of beside) c.args.count c.self.inside.rows.items)
    ∙ ap (λ (s : ScheduleState). take c.args.count s.actions) c.self.view_is
