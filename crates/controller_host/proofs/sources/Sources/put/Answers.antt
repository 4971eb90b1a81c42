use Rattle.std.proofs.Common.{◌≡◌, ◌≤◌, ◌∙◌, sym, ap, subst, arith, length}
use Rattle.std.specs.Prelude.{Bool, true, false, List, slice_set}
use Rattle.std.proofs.Common.{cond}
use Rattle.std.specs.Result.{is_ok}
use Rattle.std.specs.List.{insert}
use Rattle.std.proofs.lemmas.List.Edits.{length-insert}
use Rattle.controller_host.specs.declared.sources.Row.{Row}
use Rattle.controller_host.specs.Places.{order_of}
use Rattle.controller_host.specs.Destinations.{IsPlace}
use Rattle.controller_host.specs.Sources.{AreRows, source_in, with_source, place_among, row_order}
use Rattle.controller_host.proofs.Rising.{place_of, other_default, IsPut, replaced, inserted, few_of}
use Rattle.controller_host.proofs.sources.Sources.put.Goals as goal
use Rattle.controller_host.proofs.sources.Sources.put.Goals.{then-at-len+else-order_of, else-at-len}

pub order_of-requires : goal.order_of-requires
order_of-requires c =
    subst (λ (x : Row). IsPlace x.destination x.place) (sym c.index-one.ensures)
    (place_of 0 c.self.inside.rows.items c.before-at.result c.index-one.result.now c.self.invariant.rows (omega (arith, c.if-at-len.true, c.len.ensures)))

-- the rows with this one in the place of the one that is there
replaced_here : (c : goal.After-self-1) → IsPut c.args.row c.requires.place c.self.inside.rows.items (slice_set c.self.inside.rows.items c.before-at.result c.args.row)
replaced_here c =
    let at = c.before-at.ensures.value ∙ ap (place_among (order_of c.args.row.destination c.args.row.place)) c.as_slice.ensures.value in
    replaced c.args.row c.requires.place c.self.inside.rows.items c.before-at.result c.index-one.result.now c.self.invariant.rows at (omega (arith, c.if-at-len.true, c.len.ensures))
    c.index-one.ensures (sym c.order_of.ensures.value ∙ c.if-order_of.true ∙ c.order_of-then-at-len.ensures.value)

pub invariant_of-self : goal.invariant_of-self
invariant_of-self c =
    let ready = ap (λ s. s.ready) c.self.view_is ∙ c.requires.ready in
    record { rows = (replaced_here c).rise; room = c.self.invariant.room; none = λ h. absurd (let no : true ≡ false = sym ready ∙ h in cc) }

pub returns-then-order_of-clause-sources : goal.returns-then-order_of-clause-sources
returns-then-order_of-clause-sources c d place is =
    (replaced_here c).sources d place ∙ ap (λ rs. with_source c.args.row (source_in rs d place) d place) (ap (λ s. s.rows) c.self.view_is)

-- the rows with this one among them
inserted_here : (c : goal.After-insert) → IsPut c.args.row c.requires.place c.self.inside.rows.items (insert c.self.inside.rows.items c.before-at.result c.args.row)
inserted_here c =
    let at = c.before-at.ensures.value ∙ ap (place_among (order_of c.args.row.destination c.args.row.place)) c.as_slice.ensures.value in
    inserted c.args.row c.requires.place c.self.inside.rows.items c.before-at.result c.self.invariant.rows at
    (λ less y e.
    elim c.if-at-len.branch [
      | then-at-len+else-order_of w ↦ (λ (same : row_order y ≡ row_order c.args.row).
          let alike : w.index-one.result.now ≡ y = other_default c.self.inside.rows.items c.before-at.result w.index-one.result.now y less w.index-one.ensures e in
          w.if-order_of.false (w.order_of.ensures.value ∙ ap row_order alike ∙ same ∙ sym w.order_of-then-at-len.ensures.value))
      | else-at-len w ↦ (λ (same : row_order y ≡ row_order c.args.row). absurd (omega (arith, less, w.if-at-len.false, c.len.ensures)))
    ])

-- they are put there, since there is room
rows_are : (c : goal.After-insert) → c.insert.new.self.items ≡ insert c.self.inside.rows.items c.before-at.result c.args.row
rows_are c =
    let ready = ap (λ s. s.ready) c.self.view_is ∙ c.requires.ready in
    let room = c.self.invariant.room ready in
    let few = few_of (insert c.self.inside.rows.items c.before-at.result c.args.row) (inserted_here c).rise in
    let there : c.before-at.result ≤ length c.self.inside.rows.items = omega (arith, c.before-at.ensures.within, ap length c.as_slice.ensures.value) in
    let more = length-insert c.self.inside.rows.items c.before-at.result c.args.row there in
    let ok : is_ok c.insert.result ≡ true = c.insert.ensures.succeeds (omega (arith, room, few, more)) in
    c.insert.ensures.items ∙ ap (λ (b : Bool). cond b (insert c.self.inside.rows.items c.before-at.result c.args.row) c.self.inside.rows.items) ok

pub invariant_of-self-2 : goal.invariant_of-self-2
invariant_of-self-2 c =
    let ready = ap (λ s. s.ready) c.self.view_is ∙ c.requires.ready in
    let P : List Row → Type 0 = AreRows in
    record {
      rows = subst P (sym (rows_are c)) (inserted_here c).rise;
      room = λ h. omega (arith, c.self.invariant.room h, c.insert.ensures.capacity);
      none = λ h. absurd (let no : true ≡ false = sym ready ∙ h in cc);
    }

pub returns-clause-sources : goal.returns-clause-sources
returns-clause-sources c d place is =
    ap (λ rs. source_in rs d place) (rows_are c)
    ∙ (inserted_here c).sources d place
    ∙ ap (λ rs. with_source c.args.row (source_in rs d place) d place) (ap (λ s. s.rows) c.self.view_is)
