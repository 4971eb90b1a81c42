-- What goes into a recording: records of channels, and end marks, behind which no record of their channel comes.
use Rattle.std.specs.Prelude.{ℕ, suc, ◌==◌, if◌then◌else◌, List, [], ◌∷◌, ◌++◌}
use Rattle.ch11_f1.specs.declared.Record.{Record}
use Rattle.ch11_builder.specs.Packet.{Numbered}
use Rattle.ch11_builder.specs.Packet as packet
use Rattle.ch11_recording.specs.declared.item.Item.{Item}
use Rattle.ch11_recording.specs.declared.item.Item.TheVariants as item

-- the number of its channel
abbrev pub channel_of : Item → ℕ
channel_of (item.Message channel number message) = channel
channel_of (item.End channel) = channel

abbrev pub numbered : ℕ → Record → Numbered
numbered number message = record { number = number; message = message }

-- records with their numbers, from one on
abbrev pub numbered_from : ℕ → List Record → List Numbered
numbered_from number [] = []
numbered_from number (r ∷ rs) = numbered number r ∷ numbered_from (suc number) rs

-- the record of an item, none of an end mark
abbrev pub record_in : Item → List Numbered
record_in (item.Message channel number message) = numbered number message ∷ []
record_in (item.End channel) = []

-- the records of a channel, in their order
abbrev pub records_in : ℕ → List Item → List Numbered
records_in channel [] = []
records_in channel (x ∷ later) = (if channel_of x == channel then record_in x else []) ++ records_in channel later

-- the items of a channel, in their order
abbrev pub part_of : ℕ → List Item → List Item
part_of channel [] = []
part_of channel (x ∷ later) = if channel_of x == channel then x ∷ part_of channel later else part_of channel later

-- these records, and then the end mark
abbrev pub to_the_end : ℕ → List Numbered → List Item
to_the_end channel [] = item.End channel ∷ []
to_the_end channel (n ∷ ns) = item.Message channel n.number n.message ∷ to_the_end channel ns

-- the number of the last of these records, 0 where there is none
abbrev pub last_number : List Numbered → ℕ
last_number ns = packet.last_number 0 ns
