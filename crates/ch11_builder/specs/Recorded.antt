-- Records as they come from a bus monitor.
use Rattle.std.specs.Prelude.{◌<◌, ◌≤◌, ◌^◌, length}
use Rattle.mil_line.specs.Ranges.{most_sent}
use Rattle.ch11_f1.specs.BodyBytes.{words_of}
use Rattle.ch11_builder.specs.Packet.{Numbered, Channel}

-- its stamp has 48 bits, its block status and gap times words have 16, and it has no more words than a message at most
pub record IsRecorded (n : Numbered) : Type 0 where
  pub stamp : n.message.stamp < 2 ^ 48
  pub block : n.message.block < 2 ^ 16
  pub gaps : n.message.gaps < 2 ^ 16
  pub words : length (words_of n.message) ≤ most_sent

-- channel and version have the sizes of their fields, and the limit is lawful
pub record IsChannel (c : Channel) : Type 0 where
  pub channel : c.channel < 2 ^ 16
  pub version : c.version < 2 ^ 8
  pub low : 256 ≤ c.limit
  pub high : c.limit ≤ 524288
