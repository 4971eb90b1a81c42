use Rattle.std.proofs.Common.{[], refl, ◌∙◌, arith}
use Rattle.std.specs.BinaryHeap.{heap_items}
use Rattle.bench_complete.proofs.Standing.{is_there, some_step}
use Rattle.bench_complete.proofs.Running.{begins, popped, merges_on, merged, fewer}
use Rattle.bench_complete.proofs.merge.merge.Goals as goal

pub packets-init : goal.packets-init
packets-init g c = record {
  stays = refl;
  merging = λ file. begins file c.args.lanes.now.packets.now c.args.lanes.now.times c.args.original.now (heap_items c.args.heads) (g.W.Write.contents c.args.out.now) (c.requires.heads file) c.requires.heap;
}

pub write-requires-clause-there : goal.write-requires-clause-there
write-requires-clause-there g c =
    is_there [] c.args.lanes.now.packets.now c.args.lanes.now.times c.in-Some.head _
    (popped [] c.args.lanes.now.packets.now c.args.lanes.now.times _ (heap_items c.packets.heads) (heap_items c.pop.new.self) c.in-Some.head _ _ (c.packets.invariant.merging []) c.in-Some.ensures.permutation)

pub behind-requires-clause-there : goal.behind-requires-clause-there
behind-requires-clause-there g c =
    is_there [] c.args.lanes.now.packets.now c.args.lanes.now.times c.in-Some.head _
    (popped [] c.args.lanes.now.packets.now c.args.lanes.now.times _ (heap_items c.packets.heads) (heap_items c.pop.new.self) c.in-Some.head _ _ (c.packets.invariant.merging []) c.in-Some.ensures.permutation)

pub behind-requires-clause-stands : goal.behind-requires-clause-stands
behind-requires-clause-stands g c = λ file.
    let m = c.packets.invariant.merging file in
    (m.rest c.in-Some.head.channel, popped file c.args.lanes.now.packets.now c.args.lanes.now.times _ (heap_items c.packets.heads) (heap_items c.pop.new.self) c.in-Some.head _ _ m c.in-Some.ensures.permutation)

pub packets-smaller : goal.packets-smaller
packets-smaller g c =
    let stands = popped [] c.args.lanes.now.packets.now c.args.lanes.now.times _ (heap_items c.packets.heads) (heap_items c.pop.new.self) c.in-Some.head _ _ (c.packets.invariant.merging []) c.in-Some.ensures.permutation in
    fewer [] c.args.lanes.now.packets.now c.args.lanes.now.times c.args.original.now (heap_items c.packets.heads) (heap_items c.pop.new.self) (heap_items c.push_some.new.heads) c.in-Some.head c.behind.result
    c.in-Some.ensures.permutation (some_step [] c.args.lanes.now.packets.now c.args.lanes.now.times c.in-Some.head c.in-Some.head.source _ refl stands) (c.behind.ensures []) c.in_ok-push_some.ensures.pushed

pub packets-preserved : goal.packets-preserved
packets-preserved g c = record {
  stays = c.write.ensures.stays ∙ c.packets.invariant.stays;
  merging = λ file.
      merges_on file c.args.lanes.now.packets.now c.args.lanes.now.times c.args.original.now (heap_items c.packets.heads) (heap_items c.pop.new.self) (heap_items c.push_some.new.heads) c.in-Some.head _ _ _ c.behind.result
      (c.packets.invariant.merging file) c.in-Some.ensures.permutation c.in-Some.ensures.heap_order (λ is. c.in_ok-write.ensures.written file (c.packets.invariant.stays ∙ is)) (c.behind.ensures file)
      c.in_ok-push_some.ensures.pushed c.in_ok-push_some.ensures.heap;
}

pub returns-clause-written : goal.returns-clause-written
returns-clause-written g c file is =
    merged file c.args.lanes.now.packets.now c.args.lanes.now.times c.args.original.now (heap_items c.packets.heads) _ _ (omega (arith, c.in_default.ensures.none, c.packets.heads.data.ok.0)) (c.packets.invariant.merging file) is
