use Rattle.std.proofs.Common.{◌≡◌, ℕ, slice_get, Some, sym, ap, ◌∙◌}
use Rattle.bench_core.specs.Bench.{ChannelState}
use Rattle.bench_core.proofs.Offers.{there}
use Rattle.bench_settings.proofs.Lists.{map_at}
use Rattle.bench_core.proofs.world.place_of.Goals as goal

pub returns-then-channel : goal.returns-then-channel
returns-then-channel c =
    let here : slice_get c.args.channels.now c.loop-one.place ≡ Some c.one-item.result = ap (slice_get c.args.channels.now) c.loop-one.invariant.count ∙ there c.args.channels.now c.loop-one.one-index c.one-item.result c.one-item.result c.loop-one-test.true c.one-item.is in
    map_at (λ (l : ChannelState). l.channel) c.args.channels.now c.loop-one.place c.one-item.result here
    ∙ ap (λ (n : ℕ). Some n) (sym c.channel.ensures ∙ c.if-channel.true)
