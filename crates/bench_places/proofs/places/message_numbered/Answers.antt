use Rattle.std.proofs.Common.{◌≡◌, ◌-◌, drop, arith}
use Rattle.bench_select.specs.Viewed.{viewed_in}
use Rattle.bench_places.proofs.Walking.{taken}
use Rattle.bench_places.proofs.places.message_numbered.Goals as goal

pub returns : goal.returns
returns c =
    let rest : c.past-rest.result ≡ drop (c.args.number - 1) (viewed_in c.args.index.now) = rw c.all.ensures at c.past-rest.ensures in
    taken c.next.result (viewed_in c.args.index.now) c.past-rest.result c.next.new.self c.args.number (omega arith) rest c.next.ensures.steps
