use Rattle.std.proofs.Common.{◌≡◌, ℕ, get_or, sym, subst, ◌∙◌, arith}
use Rattle.std.specs.BinaryHeap.{heap_items}
use Rattle.std.proofs.lemmas.List.{get_or_default}
use Rattle.bench_complete.specs.Lanes.{IsNext, AreHeads, begun}
use Rattle.bench_complete.proofs.Standing.{channel_heads, all_heads}
use Rattle.bench_complete.proofs.lanes.Lanes.heads.Goals as goal

pub channels-preserved : goal.channels-preserved
channels-preserved c =
    let place : c.index.result.now ≡ get_or c.args.links.now.first.items c.channels.channel 0 =
    c.index.ensures ∙ get_or_default c.args.links.now.first.items c.channels.channel c.index.result.now 0 (omega (arith, c.channels-test.true, c.requires.linked.channels)) in
    let next : IsNext c.args.self.now.packets.now c.channels.channel 0 c.index.result.now =
    subst (IsNext c.args.self.now.packets.now c.channels.channel 0) (sym place) (c.requires.linked.first_is c.channels.channel c.channels-test.true) in
    record {
      heads = λ file. channel_heads file c.args.self.now.packets.now c.args.self.now.times c.channels.channel c.index.result.now c.recorded.result
          (heap_items c.channels.heads) (heap_items c.push_some.new.heads) (c.requires.free file) next c.recorded.ensures c.in_ok-push_some.ensures.pushed (c.channels.invariant.heads file);
      heap = c.in_ok-push_some.ensures.heap c.channels.invariant.heap;
    }

pub returns-clause-heads : goal.returns-clause-heads
returns-clause-heads c = λ file.
    let all : c.channels.channel ≡ 65536 = omega (arith, c.channels-test.false, c.channels.auto.channel-end) in
    all_heads file c.args.self.now.packets.now c.args.self.now.times (heap_items c.channels.heads) c.args.links.now.first.items c.args.links.now.next.items c.requires.linked
    (subst (λ (k : ℕ). AreHeads file c.args.self.now.packets.now c.args.self.now.times (heap_items c.channels.heads) (begun file c.args.self.now.packets.now c.args.self.now.times k))
    all (c.channels.invariant.heads file))
