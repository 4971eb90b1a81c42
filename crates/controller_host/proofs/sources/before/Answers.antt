use Rattle.std.proofs.Common.{sym, arith}
use Rattle.std.specs.Prelude.{true, nat_le}
use Rattle.std.proofs.lemmas.Bool.{le-leb}
use Rattle.std.proofs.lemmas.List.Sums.{position_or_len_is}
use Rattle.std.proofs.Common.{length, get_or}
use Rattle.controller_host.specs.Places.{order_of}
use Rattle.controller_host.specs.Sources.{row_order}
use Rattle.controller_host.proofs.Rising.{place_of, no_row}
use Rattle.controller_host.proofs.sources.before.Goals as goal

pub order_of-requires : goal.order_of-requires
order_of-requires c = place_of 0 c.args.rows.now c.loop-i.i no_row c.requires.rows c.loop-i-test.true

pub returns-then-order_of-order-clause-value : goal.returns-then-order_of-order-clause-value
returns-then-order_of-order-clause-value c =
    let order = order_of c.args.destination c.args.place in
    sym
    (position_or_len_is (λ row. nat_le (order_of c.args.destination c.args.place) (row_order row)) c.args.rows.now c.loop-i.i no_row (omega (arith, c.loop-i-test.true))
    (λ k h. rw (sym c.order_of-order.ensures.value) (c.loop-i.invariant k h))
    (λ h. le-leb order (row_order (get_or c.args.rows.now c.loop-i.i no_row)) (omega (arith, c.order_of-order.ensures.value, c.order_of.ensures.value, c.if-order_of-order.true))))

pub returns-clause-value : goal.returns-clause-value
returns-clause-value c =
    sym
    (position_or_len_is (λ row. nat_le (order_of c.args.destination c.args.place) (row_order row)) c.args.rows.now (length c.args.rows.now) no_row (omega arith)
    (λ k h. rw (sym c.order_of-order.ensures.value) (c.loop-i.invariant k (omega (arith, h, c.loop-i-test.false))))
    (λ h. absurd (omega (arith, h))))
