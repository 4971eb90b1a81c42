-- The merge of packets by time (own choice): each channel's packets stay in their order, and always the head that
-- stands first comes next.
use Rattle.std.specs.Prelude.{◌≡◌, ℕ, ◌<◌, ◌≤◌, ◌==◌, ◌⊎◌, if◌then◌else◌, List, [], ◌∷◌, filter}
use Rattle.ch11_header.specs.declared.header.Header.{Header}
use Rattle.ch11_header.specs.Kinds.{setup_record, time_data}
use Rattle.bench_complete.specs.Pieces.{Piece}

-- the packets of a channel, in their order
abbrev pub of_channel : ℕ → List Piece → List Piece
of_channel channel ps = filter (λ (p : Piece). p.header.channel == channel) ps

-- at one counter setup records (type 01) go first, then time (type 11), then all others
abbrev pub turn : ℕ → ℕ
turn kind = if kind == setup_record then 0 else (if kind == time_data then 1 else 2)

-- a packet does not stand behind another: by counter, then by type, then by channel
abbrev pub IsNotBehind : Header → Header → Type 0
IsNotBehind a b =
    (a.counter < b.counter)
    ⊎ ((a.counter ≡ b.counter) × ((turn a.kind < turn b.kind)
    ⊎ ((turn a.kind ≡ turn b.kind) × (a.channel ≤ b.channel))))

-- the packet is the first of its channel
abbrev pub IsHead : List Piece → Piece → Type 0
IsHead ps p = (others : List Piece) × (of_channel p.header.channel ps ≡ p ∷ others)

-- the packet in front does not stand behind the head of any channel, and so on behind it
abbrev pub IsMergeOrder : List Piece → Type 0
IsMergeOrder [] = Unit {0}
IsMergeOrder (p ∷ ps) = ((q : Piece) → IsHead (p ∷ ps) q → IsNotBehind p.header q.header) × IsMergeOrder ps

-- the packets merged
pub record IsMerge (parts merged : List Piece) : Type 0 where
  pub channels : (channel : ℕ) → of_channel channel merged ≡ of_channel channel parts
  pub order : IsMergeOrder merged
