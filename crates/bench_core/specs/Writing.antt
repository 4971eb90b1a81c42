-- When an item may come into a channel's packets.
use Rattle.std.specs.Prelude.{◌<◌, ◌^◌}
use Rattle.ch11_builder.specs.Held.{Held, latest_number}
use Rattle.ch11_recording.specs.declared.item.Item.{Item}
use Rattle.ch11_recording.specs.declared.item.Item.TheVariants as item

-- a message with a number above the last and a stamp of 48 bits, and an end mark
abbrev pub MayCome : Held → Item → Type 0
MayCome h (item.Message channel number message) = (latest_number h < number) × (message.stamp < 2 ^ 48)
MayCome h (item.End channel) = Unit {0}
