use Rattle.std.proofs.Common.{◌≡◌, ◌≢◌, drop}
use Rattle.std.specs.List.{AllByRecursion}
use Rattle.bench_core.specs.Bench.{ChannelState}
use Rattle.bench_core.proofs.world.place_of.Given as goal

abbrev pub invariant-loop-one : goal.invariant-loop-one
invariant-loop-one l = record {
  count : l.place ≡ l.one-index;
  none : AllByRecursion (λ (k : ChannelState). k.channel ≢ l.channel) (drop l.one-index l.channels) → AllByRecursion (λ (k : ChannelState). k.channel ≢ l.channel) l.channels;
}
