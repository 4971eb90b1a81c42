use Rattle.std.proofs.Common.{◌∙◌, sym}
use Rattle.bench_signals.proofs.Listed.{channels_more, no_channels}
use Rattle.bench_signals.proofs.counting.Counting.channels_of.Goals as goal

pub channels-init : goal.channels-init
channels-init c = c.new-channels.ensures.items ∙ sym (no_channels c.args.self.now)

pub channels-preserved : goal.channels-preserved
channels-preserved c = channels_more c.args.self.now c.channels.channel c.channels.channels.items c.push_channel.new.channels.items c.channels.invariant c.in_ok-push_channel.ensures
