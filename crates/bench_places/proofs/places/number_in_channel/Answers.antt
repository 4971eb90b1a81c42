use Rattle.std.proofs.Common.{arith}
use Rattle.bench_select.specs.Viewed.{viewed_in}
use Rattle.bench_places.proofs.Walking.{drops, counts}
use Rattle.bench_places.proofs.places.number_in_channel.Goals as goal

pub loop-passed-preserved : goal.loop-passed-preserved
loop-passed-preserved c = record {
  rest = drops (λ x. (x.0, x.1)) c.next-heard.result (viewed_in c.args.index.now) c.loop-passed.rest c.next-heard.new.self c.loop-passed._passed c.loop-passed.invariant.rest c.next-heard.ensures.steps;
  counted =
      counts (λ x. (x.0, x.1)) c.args.channel c.next-heard.result (viewed_in c.args.index.now) c.loop-passed.rest c.next-heard.new.self c.loop-passed._passed c.loop-passed.count c.one_if_of-count.result
      c.loop-passed.invariant.rest c.next-heard.ensures.steps c.loop-passed.invariant.counted c.one_if_of-count.ensures.value;
  few = omega (arith, c.loop-passed.invariant.few, c.one_if_of-count.ensures.few);
}
