use Rattle.std.proofs.Common.{◌≡◌, ◌++◌, length, map}
use Rattle.ch11_reader.specs.Contents.{reading}
use Rattle.ch11_reader.specs.Indexed.{AreWithin, found_of}
use Rattle.ch11_reader.proofs.channel.ChannelMessagesIterator.next.Given as goal

abbrev pub invariant-loop-seen : goal.invariant-loop-seen
invariant-loop-seen l = AreWithin l.self-inside.file.now l.self-inside.rest.now × (l.self-inside.current ++ reading (map (found_of l.self-inside.file.now) l.self-inside.rest.now) l.self-inside.channel ≡ l.fn.self)

abbrev pub decreases-loop-seen : goal.decreases-loop-seen
decreases-loop-seen l = length l.self-inside.rest.now
