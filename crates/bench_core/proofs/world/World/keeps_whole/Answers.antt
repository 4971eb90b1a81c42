use Rattle.std.proofs.Common.{subst}
use Rattle.std.specs.VecDeque.{deque_capacity}
use Rattle.bench_core.specs.World.{IsWhole, state_in}
use Rattle.bench_core.proofs.Worlds.{is_whole}
use Rattle.bench_core.proofs.world.World.keeps_whole.Goals as goal

pub returns : goal.returns
returns c =
    let w = c.self.inside in
    subst IsWhole c.self.view_is
    (is_whole c.bench_is_settled.ensures.settled c.bench_is_settled.ensures.read (deque_capacity w.queue) w.builders.items w.file.items w.packets (state_in w) c.self.invariant)
