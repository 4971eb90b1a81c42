-- The bytes of a recording (IRIG 106-17 Chapter 11): the prologue, then the packets in the order in which they are
-- closed. A packet is closed by the item that opens the next one of its channel, or by the end mark of its channel (own
-- choice).
use Rattle.std.specs.Prelude.{ℕ, suc, ◌-◌, ◌==◌, nat_le, Bool, not, ◌&&◌, if◌then◌else◌, List, [], ◌∷◌, ◌++◌, length}
use Rattle.ch11_builder.specs.Packet.{Numbered, Channel}
use Rattle.ch11_builder.specs.Cutting.{is_empty}
use Rattle.ch11_builder.specs.Held.{Held, fresh, fits, pushed, closed, packet_of}
use Rattle.ch11_recording.specs.declared.item.Item.{Item}
use Rattle.ch11_recording.specs.declared.item.Item.TheVariants as item
use Rattle.ch11_recording.specs.Items.{channel_of, numbered}

-- what all packets of a recording have in common: the data type version, and the most bytes of a packet
pub record Format : Type 0 where
  pub version : ℕ
  pub limit : ℕ

abbrev pub channel_in : Format → ℕ → Channel
channel_in f channel = record { channel = channel; version = f.version; limit = f.limit }

-- an item of its channel closes the packet that is open there
abbrev pub closes : Held → Item → Bool
closes h (item.Message channel number message) = not (fits h (numbered number message))
closes h (item.End channel) = not (is_empty h.records)

-- what a channel holds after an item of it
abbrev pub met : Held → Item → Held
met h (item.Message channel number message) = pushed h (numbered number message)
met h (item.End channel) = if is_empty h.records then h else closed h

-- the item is of the channel
abbrev pub concerns : Held → Item → Bool
concerns h x = channel_of x == h.channel.channel

-- what a channel holds after any item
abbrev pub after_item : Held → Item → Held
after_item h x = if concerns h x then met h x else h

-- what a channel holds after items, the oldest first
abbrev pub after_items : Held → List Item → Held
after_items h [] = h
after_items h (x ∷ later) = after_items (after_item h x) later

-- what a channel holds once the items were taken
abbrev pub held_in : Format → ℕ → List Item → Held
held_in f channel items = after_items (fresh (channel_in f channel)) items

-- the bytes of the packet that an item closes, none where it closes none
abbrev pub closing : Held → Item → List ℕ
closing h x = if closes h x then packet_of h else []

-- the packets that later items close, behind earlier ones
abbrev pub packets_behind : Format → List Item → List Item → List ℕ
packets_behind f earlier [] = []
packets_behind f earlier (x ∷ later) = closing (held_in f (channel_of x) earlier) x
    ++ packets_behind f (earlier ++ x ∷ []) later

-- the bytes of a recording
unfoldable pub written_file : Format → List ℕ → List Item → List ℕ
written_file f prologue items = prologue ++ packets_behind f [] items

-- the packet that an item closes, none where it closes none
abbrev pub closed_by : Held → Item → List (List ℕ)
closed_by h x = if closes h x then packet_of h ∷ [] else []

-- the packets that later items close, behind earlier ones, each as its bytes
abbrev pub closed_packets_behind : Format → List Item → List Item → List (List ℕ)
closed_packets_behind f earlier [] = []
closed_packets_behind f earlier (x ∷ later) = closed_by (held_in f (channel_of x) earlier) x
    ++ closed_packets_behind f (earlier ++ x ∷ []) later

-- the packets of a recording behind its prologue, in their order, each as its bytes
unfoldable pub closed_packets : Format → List Item → List (List ℕ)
closed_packets f items = closed_packets_behind f [] items

-- how many of the packets stand whole within so many bytes, from the first on
abbrev pub whole_packets : ℕ → List (List ℕ) → ℕ
whole_packets bytes [] = 0
whole_packets bytes (p ∷ ps) = if nat_le (length p) bytes then suc (whole_packets (bytes - length p) ps) else 0

-- the records of a channel that its packets have: those in no closed packet are left out
abbrev pub closed_behind : Held → List Item → List Numbered
closed_behind h [] = []
closed_behind h (x ∷ later) = (if concerns h x && closes h x then h.records else [])
    ++ closed_behind (after_item h x) later

abbrev pub closed_records : Format → ℕ → List Item → List Numbered
closed_records f channel items = closed_behind (fresh (channel_in f channel)) items
