-- How the records of a channel are cut into packets (own choice within IRIG 106-17 Chapter 11).
use Rattle.std.specs.Prelude.{◌≡◌, ℕ, ◌+◌, ◌≤◌, Bool, true, false, not, ◌||◌, ◌&&◌, nat_lt, nat_le, if◌then◌else◌, List}
use Rattle.std.specs.Prelude.{[], ◌∷◌, ◌++◌, take}
use Rattle.std.specs.List.{AllByRecursion}
use Rattle.ch11_builder.specs.Packet.{Numbered, Channel, packet_length, first_stamp, last_number, packet}

abbrev pub is_empty : List Numbered → Bool
is_empty [] = true
is_empty (n ∷ ns) = false

-- the stamp of the last record, or the one given
abbrev pub last_stamp : ℕ → List Numbered → ℕ
last_stamp before [] = before
last_stamp before (n ∷ ns) = last_stamp n.message.stamp ns

-- One packet can hold the records: there is one, the packet is at most `limit` bytes long, and the last stamp is less
-- than 1,000,000 ticks (0.1 s) past the first.
abbrev pub is_piece : ℕ → List Numbered → Bool
is_piece limit ns = not (is_empty ns) && nat_le (packet_length ns) limit
    && nat_lt (last_stamp 0 ns) (first_stamp ns + 1000000)

-- the records of the pieces
abbrev pub joined : List (List Numbered) → List Numbered
joined [] = []
joined (p ∷ ps) = p ++ joined ps

-- no packet can hold a piece and the record behind it
abbrev pub AreFull : ℕ → List (List Numbered) → Type 0
AreFull limit [] = Unit {0}
AreFull limit (p ∷ []) = Unit {0}
AreFull limit (p ∷ q ∷ ps) = (is_piece limit (p ++ take 1 q) ≡ false) × AreFull limit (q ∷ ps)

-- the pieces are the records cut into packets
pub record IsCutting (limit : ℕ) (records : List Numbered) (pieces : List (List Numbered)) : Type 0 where
  pub joins : joined pieces ≡ records
  pub held : AllByRecursion (λ p. is_piece limit p ≡ true) pieces
  pub full : AreFull limit pieces

-- the packets of pieces of a channel, in their order, from a place on and behind a number
abbrev pub packets_from : Channel → ℕ → ℕ → List (List Numbered) → List (List ℕ)
packets_from c place before [] = []
packets_from c place before (p ∷ ps) = packet c place before p ∷ packets_from c (place + 1) (last_number before p) ps

-- stamps that never fall, from one on
abbrev pub NeverFall : ℕ → List Numbered → Type 0
NeverFall stamp [] = Unit {0}
NeverFall stamp (n ∷ ns) = (stamp ≤ n.message.stamp) × NeverFall n.message.stamp ns

-- ---- The cutting, computed: each record goes into the open piece if a packet can hold it there.

-- the pieces, where `open_records` are in the open one and the others come behind them
abbrev pub cut_behind : ℕ → List Numbered → List Numbered → List (List Numbered)
cut_behind limit open_records [] = if is_empty open_records then [] else (open_records ∷ [])
cut_behind limit open_records (n ∷ ns) =
    if is_empty open_records || is_piece limit (open_records ++ n ∷ [])
    then cut_behind limit (open_records ++ n ∷ []) ns
    else (open_records ∷ cut_behind limit (n ∷ []) ns)

abbrev pub cut : ℕ → List Numbered → List (List Numbered)
cut limit ns = cut_behind limit [] ns

-- the packets of all records of a channel
abbrev pub packets : Channel → List Numbered → List (List ℕ)
packets c ns = packets_from c 0 0 (cut c.limit ns)
