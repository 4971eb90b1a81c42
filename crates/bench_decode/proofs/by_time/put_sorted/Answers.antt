use Rattle.std.proofs.lemmas.List.{take_more}
use Rattle.bench_decode.proofs.Sorted.{going_all, going_more, going_none}
use Rattle.std.proofs.Common.{arith}
use Rattle.bench_decode.proofs.by_time.put_sorted.Goals as goal

pub loop-one-init : goal.loop-one-init
loop-one-init g c = λ are. going_none _ _ _ _ are.count are.shown

pub loop-one-preserved : goal.loop-one-preserved
loop-one-preserved g c = λ are.
    let now = c.loop-one.invariant are in
    going_more _ _ c.loop-one.one-index _ _ _ _ _ _ _ c.requires c.loop-one-test.true (take_more c.args.messages.now c.loop-one.one-index _ c.loop-one-test.true) now (rw c.of-view.ensures at c.in_ok-put_message.ensures.put now.shown) c.in_ok-put_message.ensures.count

pub returns : goal.returns
returns g c = λ are. going_all _ _ c.loop-one.one-index _ _ _ _ (c.loop-one.invariant are) (omega (arith, c.loop-one-test.false))
