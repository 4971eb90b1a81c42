-- What a builder stands for.
use Rattle.std.specs.Prelude.{ℕ, ◌+◌, Bool, ◌||◌, if◌then◌else◌, List, [], ◌∷◌, ◌++◌}
use Rattle.ch11_builder.specs.Packet.{Numbered, Channel, last_number, packet}
use Rattle.ch11_builder.specs.Cutting.{is_empty, is_piece}

-- its channel, the records in its open packet, how many packets of the channel come before that one, and the number of
-- the last record in them
pub record Held : Type 0 where
  pub channel : Channel
  pub place : ℕ
  pub before : ℕ
  pub records : List Numbered

-- nothing was pushed yet
abbrev pub fresh : Channel → Held
fresh c = record { channel = c; place = 0; before = 0; records = [] }

-- the number of the record that was pushed last
abbrev pub latest_number : Held → ℕ
latest_number s = last_number s.before s.records

-- the packet of the open records
abbrev pub packet_of : Held → List ℕ
packet_of s = packet s.channel s.place s.before s.records

-- the open packet can hold the record too
unfoldable pub fits : Held → Numbered → Bool
fits s n = is_empty s.records || is_piece s.channel.limit (s.records ++ n ∷ [])

-- the open packet is finished
abbrev pub closed : Held → Held
closed s = record s { place = s.place + 1; before = latest_number s; records = [] }

-- the record goes into the open packet
abbrev pub with_record : Held → Numbered → Held
with_record s n = record s { records = s.records ++ n ∷ [] }

-- one more record
unfoldable pub pushed : Held → Numbered → Held
pushed s n = with_record (if fits s n then s else closed s) n
