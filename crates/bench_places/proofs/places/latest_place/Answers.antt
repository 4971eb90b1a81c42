use Rattle.bench_select.specs.Viewed.{viewed_in}
use Rattle.bench_places.proofs.Walking.{drops, latest_kept}
use Rattle.bench_places.proofs.places.latest_place.Goals as goal

pub loop-passed-preserved : goal.loop-passed-preserved
loop-passed-preserved c = record {
  rest = drops (λ x. (x.0, x.1)) c.next-heard.result (viewed_in c.args.index.now) c.loop-passed.rest c.next-heard.new.self c.loop-passed.passed c.loop-passed.invariant.rest c.next-heard.ensures.steps;
  latest =
      latest_kept (λ x. (x.0, x.1)) c.args.sought.now c.next-heard.result (viewed_in c.args.index.now) c.loop-passed.rest c.next-heard.new.self c.loop-passed.passed c.loop-passed.latest c.later_of-latest.result
      c.loop-passed.invariant.rest c.next-heard.ensures.steps c.loop-passed.invariant.latest c.later_of-latest.ensures;
}
