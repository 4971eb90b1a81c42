use Rattle.std.proofs.Common.{◌+◌, List, drop, ap, sym, subst, ◌∙◌}
use Rattle.controller_host.specs.declared.controls.Control.{Control}
use Rattle.controller_host.specs.Sources.{SourcesState, source_in}
use Rattle.bc_machine.specs.Asking.{controls_at, with_controls}
use Rattle.bc_machine.specs.Rows.{all_placed}
use Rattle.bc_machine.specs.Schedules.{HaveRoom}
use Rattle.bc_machine.proofs.Left.{left, room_here, room_tail, room_other, asks_for, unset, controls_some, controls_next, controls_other}
use Rattle.bc_machine.proofs.asking.set_at.Goals as goal
use Rattle.bc_machine.proofs.asking.set_at.Goals.{then-row-number+in-Some, then-row-number+in_default, else-row-number}

pub set-requires : goal.set-requires
set-requires c = record {
  ready = room_here c.args.beside.now.lists c.args.rows.now c.args.number c.loop-row.sources.ready c.loop-row.row-index c.row-item.result c.in-Some.control.now c.loop-row-test.true c.row-item.is
      c.if-row-number.true (asks_for _ c.in-Some.control.now (sym c.in-Some.ensures)) c.loop-row.invariant.room;
}

pub loop-row-preserved : goal.loop-row-preserved
loop-row-preserved c =
    let beside = c.args.beside.now.lists in
    let rows = c.args.rows.now in
    let n = c.args.number in
    let i = c.loop-row.row-index in
    let row = c.row-item.result in
    let less = c.loop-row-test.true in
    let is = c.row-item.is in
    let was = c.loop-row.sources in
    let rest = controls_at n (all_placed beside (drop (i + 1) rows)) in
    elim c.if-row-number.branch [
      | then-row-number+in-Some w ↦
          let ready = ap (λ (s : SourcesState). s.ready) w.sources-is ∙ w.set.ensures.ready in
          record {
            ready = ready ∙ c.loop-row.invariant.ready;
            room = subst (λ b. HaveRoom b (left beside rows n (i + 1))) (sym ready) (room_tail beside rows n was.ready i row less is w.if-row-number.true c.loop-row.invariant.room);
            left = λ d place at.
                ap (λ (s : SourcesState). with_controls rest (source_in s.rows d place) d place) w.sources-is
                ∙ ap (λ o. with_controls rest o d place) (w.set.ensures.sources d place at)
                ∙ ap (λ (cs : List Control). with_controls cs (source_in was.rows d place) d place) (sym (controls_some beside rows n i row w.in-Some.control.now less is w.if-row-number.true (asks_for _ w.in-Some.control.now (sym w.in-Some.ensures))))
                ∙ c.loop-row.invariant.left d place at;
          }
      | then-row-number+in_default w ↦
          let ready = ap (λ (s : SourcesState). s.ready) w.sources-is in
          record {
            ready = ready ∙ c.loop-row.invariant.ready;
            room = subst (λ b. HaveRoom b (left beside rows n (i + 1))) (sym ready) (room_tail beside rows n was.ready i row less is w.if-row-number.true c.loop-row.invariant.room);
            left = λ d place at.
                ap (λ (s : SourcesState). with_controls rest (source_in s.rows d place) d place) w.sources-is
                ∙ sym (unset _ rest (source_in was.rows d place) d place (sym w.in_default.ensures))
                ∙ ap (λ (cs : List Control). with_controls cs (source_in was.rows d place) d place) (sym (controls_next beside rows n i row less is w.if-row-number.true))
                ∙ c.loop-row.invariant.left d place at;
          }
      | else-row-number w ↦
          let ready = ap (λ (s : SourcesState). s.ready) w.sources-is in
          record {
            ready = ready ∙ c.loop-row.invariant.ready;
            room = subst (λ b. HaveRoom b (left beside rows n (i + 1))) (sym ready) (room_other beside rows n was.ready i row less is w.if-row-number.false c.loop-row.invariant.room);
            left = λ d place at.
                ap (λ (s : SourcesState). with_controls rest (source_in s.rows d place) d place) w.sources-is
                ∙ ap (λ (cs : List Control). with_controls cs (source_in was.rows d place) d place) (sym (controls_other beside rows n i row less is w.if-row-number.false))
                ∙ c.loop-row.invariant.left d place at;
          }
    ]
