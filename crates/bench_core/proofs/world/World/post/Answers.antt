use Rattle.std.proofs.Common.{◌<◌, length, arith}
use Rattle.std.specs.VecDeque.{deque_capacity}
use Rattle.bench_core.proofs.Offers.{there}
use Rattle.bench_core.proofs.Fields.{post_done, post_keeps}
use Rattle.bench_core.proofs.world.World.post.Goals as goal

pub invariant_of-self : goal.invariant_of-self
invariant_of-self c =
    let w = c.self.inside in
    let low : c.args.index < length w.channels.items = omega (arith, c.if-index-len.false, c.len.ensures, w.channels.ok.0) in
    let at = there w.channels.items c.args.index c.index_mut.result.now c.index_mut.result.now low c.index_mut.ensures.value in
    post_keeps c.args.index c.args.action.now (record { version = w.version; limit = w.limit }) w.prologue.value.items w.most w.channels.items w.capacity w.queue.items w.taken c.index_mut.result.now c.post.new.self at
    c.post.result (deque_capacity w.queue) w.builders.items w.file.items w.packets c.post.ensures.channel c.post.ensures.made c.post.ensures.err c.self.invariant

pub returns-clause-ok : goal.returns-clause-ok
returns-clause-ok c =
    let w = c.self.inside in
    let low : c.args.index < length w.channels.items = omega (arith, c.if-index-len.false, c.len.ensures, w.channels.ok.0) in
    let at = there w.channels.items c.args.index c.index_mut.result.now c.index_mut.result.now low c.index_mut.ensures.value in
    post_done c.args.index c.args.action.now (record { version = w.version; limit = w.limit }) w.prologue.value.items w.most w.channels.items w.capacity w.queue.items w.taken c.index_mut.result.now c.post.new.self at
    c.post.result c.args.self.now c.self.view_is c.post.ensures.channel
