use Rattle.std.proofs.Common.{◌∙◌, ap}
use Rattle.std.specs.VecDeque.{deque_capacity}
use Rattle.bench_core.proofs.Beginning.{begun_is, begun_fields}
use Rattle.bench_core.proofs.world.World.begin.Goals as goal

pub invariant_of-result : goal.invariant_of-result
invariant_of-result c =
    let s = c.args.settings.now in
    begun_fields (record { version = s.version; limit = s.limit }) s.prologue.items s.posts c.args.jobs.now s.queue c.in_ok-channels.channels.items c.in_ok-queue.queue.items c.none.result c.of.result.value.items
    c.in_ok-channels.ensures c.in_ok-queue.ensures.items c.none.ensures (ap (λ v. v.items) c.of.ensures)
    (deque_capacity c.in_ok-queue.queue) c.in_ok-builders.builders.items c.in_ok-file.file.items
    c.in_ok-builders.ensures.builders (c.in_ok-file.ensures.items_if_clones_equal (λ x y h. h) ∙ c.deref.ensures.value) c.in_ok-builders.ensures.channels c.requires.distinct
    (record { version = c.builders_of.ensures.version; low = c.requires.ranges.limit_low; high = c.requires.ranges.limit_high })
    c.requires.prologue c.requires.ranges.few c.in_ok-queue.ensures.capacity

pub returns : goal.returns
returns c =
    let s = c.args.settings.now in
    begun_is (record { version = s.version; limit = s.limit }) s.prologue.items s.posts c.args.jobs.now s.queue c.in_ok-channels.channels.items c.in_ok-queue.queue.items c.none.result c.of.result.value.items
    c.in_ok-channels.ensures c.in_ok-queue.ensures.items c.none.ensures (ap (λ v. v.items) c.of.ensures)
