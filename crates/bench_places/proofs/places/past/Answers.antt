use Rattle.bench_places.proofs.Walking.{drops}
use Rattle.bench_places.proofs.places.past.Goals as goal

pub loop-passed-preserved : goal.loop-passed-preserved
loop-passed-preserved c = drops (λ x. (x.0, x.1)) c.next.result c.args.messages c.loop-passed.rest c.next.new.self c.loop-passed._passed c.loop-passed.invariant c.next.ensures.steps
