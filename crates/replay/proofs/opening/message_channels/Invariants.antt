use Rattle.std.proofs.Common.{◌≡◌, take}
use Rattle.ch11_reader.specs.Listing.{listing}
use Rattle.replay.specs.Opening.{channels_in}
use Rattle.replay.proofs.opening.message_channels.Given as goal

abbrev pub invariant-loop-packet : goal.invariant-loop-packet
invariant-loop-packet l = l.channels.items ≡ channels_in (take l.packet-index (listing l.index))
