use Rattle.bench_stat.proofs.Telling.{one_added}
use Rattle.bench_stat.proofs.following_packets.ToldChannels.add.Goals as goal

pub returns : goal.returns
returns c = λ s others are.
    one_added c.args.shown.now s others c.args.figures.now c.args.self.now _ c.in_ok-told.told are (c.in_ok-told.ensures s c.args.figures.now.channel) c.in_ok-insert.ensures.updates.0
