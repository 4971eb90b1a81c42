use Rattle.std.proofs.Common.{[], List, sym, subst, take, arith}
use Rattle.std.proofs.lemmas.List.{take_all, take_more}
use Rattle.bench_stat.specs.declared.channels.ChannelFigures.{ChannelFigures}
use Rattle.bench_stat.specs.Told.{AreTold}
use Rattle.bench_stat.proofs.Telling.{nothing_told}
use Rattle.bench_stat.proofs.following_packets.ToldChannels.before_packets.Goals as goal

pub channels-init : goal.channels-init
channels-init c = λ s. nothing_told c.args.shown.now s c.new-told.result c.new-told.ensures

pub channels-preserved : goal.channels-preserved
channels-preserved c = λ s.
    subst (λ (fs : List ChannelFigures). AreTold c.args.shown.now s fs [] c.add.new.self) (sym (take_more c.args.figures.now c.channels.channel-index _ c.channels-test.true))
    (c.in_ok-add.ensures s (take c.channels.channel-index c.args.figures.now) (c.channels.invariant s))

pub returns : goal.returns
returns c = λ s.
    subst (λ (fs : List ChannelFigures). AreTold c.args.shown.now s fs [] c.channels.told) (take_all c.channels.channel-index c.args.figures.now (omega (arith, c.channels-test.false))) (c.channels.invariant s)
