use Rattle.std.proofs.Common.{◌≤◌, length, subst}
use Rattle.replay.proofs.Channels.{channels_whole}
use Rattle.replay.proofs.opening.message_channels.Goals as goal

pub returns : goal.returns
returns c =
    channels_whole c.args.index.now c.loop-packet.packet-index c.loop-packet.channels.items c.loop-packet.invariant
    (subst (λ xs. length xs ≤ c.loop-packet.packet-index) c.packets-packet-items.ensures.listed c.loop-packet-test.false)
