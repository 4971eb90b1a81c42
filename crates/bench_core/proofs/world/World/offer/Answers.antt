use Rattle.std.proofs.Common.{◌<◌, length, arith}
use Rattle.std.specs.VecDeque.{deque_capacity}
use Rattle.bench_core.proofs.Offers.{there}
use Rattle.bench_core.proofs.Fields.{offer_done, offer_keeps}
use Rattle.bench_core.proofs.world.World.offer.Goals as goal

pub invariant_of-self : goal.invariant_of-self
invariant_of-self c =
    let w = c.self.inside in
    let low : c.args.index < length w.channels.items = omega (arith, c.if-index-len.false, c.len.ensures, w.channels.ok.0) in
    let at = there w.channels.items c.args.index c.index_mut.result.now c.index_mut.result.now low c.index_mut.ensures.value in
    offer_keeps (record { version = w.version; limit = w.limit }) w.prologue.value.items w.most w.channels.items w.capacity w.queue.items w.taken c.args.index c.index_mut.result.now c.offer_to.new.channel c.offer_to.new.queue.items at
    c.offer_to.result (deque_capacity w.queue) w.builders.items w.file.items w.packets (deque_capacity c.offer_to.new.queue) c.offer_to.ensures.capacity
    c.offer_to.ensures.channel c.offer_to.ensures.queue c.offer_to.ensures.made c.offer_to.ensures.same_channel c.offer_to.ensures.same_queue c.self.invariant

pub returns-clause-ok : goal.returns-clause-ok
returns-clause-ok c =
    let w = c.self.inside in
    let low : c.args.index < length w.channels.items = omega (arith, c.if-index-len.false, c.len.ensures, w.channels.ok.0) in
    let at = there w.channels.items c.args.index c.index_mut.result.now c.index_mut.result.now low c.index_mut.ensures.value in
    offer_done (record { version = w.version; limit = w.limit }) w.prologue.value.items w.most w.channels.items w.capacity w.queue.items w.taken c.args.index c.index_mut.result.now c.offer_to.new.channel c.offer_to.new.queue.items at
    c.offer_to.result c.args.self.now c.self.view_is c.offer_to.ensures.channel c.offer_to.ensures.queue
