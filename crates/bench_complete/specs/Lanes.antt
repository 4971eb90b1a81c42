-- The packets that each channel still has to give, and the heads of the channels.
use Rattle.std.specs.Prelude.{◌≡◌, ℕ, suc, ◌+◌, ◌-◌, ◌*◌, ◌<◌, ◌≤◌, ◌==◌, ◌&&◌, true, if◌then◌else◌, List, [], ◌∷◌}
use Rattle.std.specs.Prelude.{◌++◌, length, map, take, drop, sum_by, slice_get, slice_index, nat_lt, None, Some}
use Rattle.std.specs.Prelude.{Contains}
use Rattle.std.specs.List.Sorted.{IsPermutation}
use Rattle.std.specs.Ordering.{nat_cmp, on, flip_args, then_cmp}
use Rattle.std.specs.declared.cmp.Ordering.{Ordering}
use Rattle.std.specs.declared.option.Option.{Option}
use Rattle.std.specs.Io.KnownBytes.{Appends}
use Rattle.bench_complete.specs.declared.head.Head.{Head}
use Rattle.bench_complete.specs.declared.head.Source.{Source}
use Rattle.bench_complete.specs.declared.head.Source.TheVariants.{Recorded, Time}
use Rattle.bench_complete.specs.declared.placed.Placed.{Placed}
use Rattle.bench_complete.specs.declared.times.Times.{Times}
use Rattle.bench_complete.specs.Pieces.{Piece, piece_at, goes_over, bytes_of, kept_entries}
use Rattle.bench_complete.specs.Merging.{of_channel, turn, IsMerge}
use Rattle.bench_complete.specs.TimePackets.{time_piece, times_from, times_in}

-- the entries of a channel that go over
abbrev pub lane : ℕ → List Placed → List Placed
lane channel [] = []
lane channel (e ∷ es) = if goes_over e.header && (e.header.channel == channel) then e ∷ lane channel es
    else lane channel es

-- the packet of a file that an entry tells of
abbrev pub piece_in : List ℕ → Placed → Piece
piece_in file e = piece_at file e.offset e.header

-- these bytes stand in a file at an offset
abbrev pub StandsAt : List ℕ → ℕ → List ℕ → Type 0
StandsAt file offset bytes = bytes ≡ take (length bytes) (drop offset file)

-- the first packet of a channel from a place on stands at another; that is the number of packets where there is none
pub record IsNext (es : List Placed) (channel from place : ℕ) : Type 0 where
  pub order : from ≤ place
  pub within : place ≤ length es
  pub same : lane channel (drop from es) ≡ lane channel (drop place es)
  pub there : (e : Placed) → slice_get es place ≡ Some e → (goes_over e.header ≡ true) × (e.header.channel ≡ channel)

-- packets are linked from a place on: each channel's first, and the next of its channel behind each
pub record AreLinked (es : List Placed) (from : ℕ) (first next : List ℕ) : Type 0 where
  pub within : from ≤ length es
  pub channels : length first ≡ 65536
  pub places : length next ≡ length es
  pub first_is : (channel : ℕ) → channel < 65536 → IsNext es channel from (slice_index first channel)
  pub next_is : (i : ℕ) (e : Placed) → from ≤ i → slice_get es i ≡ Some e → goes_over e.header ≡ true
      → IsNext es e.header.channel (suc i) (slice_index next i)
  pub beyond : (channel : ℕ) → 65536 ≤ channel → lane channel (drop from es) ≡ []

-- the numbers of a head are those of a packet
pub record IsAhead (h : Head) (p : Piece) : Type 0 where
  pub counter : h.counter ≡ p.header.counter
  pub turn : h.turn ≡ turn p.header.kind
  pub channel : h.channel ≡ p.header.channel

-- a packet and those of its channel behind it, by where it comes from
abbrev pub IsFrom : List ℕ → List Placed → Times → ℕ → Source → Piece → List Piece → Type 0
IsFrom file es t channel (Recorded place) p ps =
    (e : Placed) × (slice_get es place ≡ Some e) × (goes_over e.header ≡ true) × (p ≡ piece_in file e)
    × (ps ≡ map (piece_in file) (lane channel (drop (suc place) es)))
IsFrom file es t channel (Time second) p ps =
    (t.first ≤ second) × (second < t.end) × (p ≡ time_piece t second)
    × (ps ≡ times_from t (t.end - (second + 1)) (second + 1))

-- a head stands for the first of the packets that its channel has left
pub record Stands (file : List ℕ) (es : List Placed) (t : Times) (h : Head) (rest : List Piece) : Type 0 where
  pub first : Piece
  pub others : List Piece
  pub is : rest ≡ first ∷ others
  pub ahead : IsAhead h first
  pub from : IsFrom file es t h.channel h.source first others

-- there is what a head comes from
abbrev pub IsThere : List Placed → Times → Source → Type 0
IsThere es t (Recorded place) = place < length es
IsThere es t (Time second) = (t.first ≤ second) × (second < t.end)

-- the head of the packet at a place of a recording
pub record IsRecordedHead (es : List Placed) (place : ℕ) (h : Head) : Type 0 where
  pub entry : Placed
  pub there : slice_get es place ≡ Some entry
  pub counter : h.counter ≡ entry.header.counter
  pub turn : h.turn ≡ turn entry.header.kind
  pub channel : h.channel ≡ entry.header.channel
  pub source : h.source ≡ Recorded place

-- the head of the time packet of a second
pub record IsTimed (t : Times) (second : ℕ) (h : Head) : Type 0 where
  pub within : second < t.end
  pub counter : h.counter ≡ second * 10000000
  pub turn : h.turn ≡ 1
  pub channel : h.channel ≡ t.channel
  pub source : h.source ≡ Time second

-- how many steps a head's channel has before it at most
abbrev pub steps_by : List Placed → Times → Source → ℕ
steps_by es t (Recorded place) = length es - place
steps_by es t (Time second) = t.end - second

abbrev pub steps : List Placed → Times → Head → ℕ
steps es t h = steps_by es t h.source

-- what stands behind the first packet of a head's channel
abbrev pub Follows : List ℕ → List Placed → Times → Head → Option Head → Type 0
Follows file es t h None = (p : Piece) (ps : List Piece) → Stands file es t h (p ∷ ps) → ps ≡ []
Follows file es t h (Some n) =
    (n.channel ≡ h.channel) × (steps es t n < steps es t h)
    × ((p : Piece) (ps : List Piece) → Stands file es t h (p ∷ ps) → Stands file es t n ps)

-- 1 for a head of the channel, else 0
abbrev pub on_channel : ℕ → Head → ℕ
on_channel channel h = if h.channel == channel then 1 else 0

-- the heads of all channels that have packets left, one each
pub record AreHeads (file : List ℕ) (es : List Placed) (t : Times) (heads : List Head)
    (rest : ℕ → List Piece) : Type 0 where
  pub sound : (h : Head) → Contains heads h → Stands file es t h (rest h.channel)
  pub whole : (channel : ℕ) (p : Piece) (ps : List Piece) → rest channel ≡ p ∷ ps → (h : Head) × Contains heads h
      × (h.channel ≡ channel)
  pub single : (channel : ℕ) → sum_by (on_channel channel) heads ≤ 1

-- the order of heads in a heap, whose greatest is the one that stands first
abbrev pub head_cmp : Head → Head → Ordering
head_cmp = flip_args (then_cmp (on (λ (h : Head). h.counter) nat_cmp)
    (then_cmp (on (λ (h : Head). h.turn) nat_cmp) (on (λ (h : Head). h.channel) nat_cmp)))

-- the packets that are merged
abbrev pub parts_of : List ℕ → List Placed → Times → List Piece
parts_of file es t = times_in t ++ kept_entries file es

-- a head, where there is one, went into a heap
abbrev pub Pushes : Option Head → List Head → List Head → Type 0
Pushes None old new = new ≡ old
Pushes (Some h) old new = IsPermutation (h ∷ old) new

-- the time packets of a channel, and for the first channels those of the recording
abbrev pub begun : List ℕ → List Placed → Times → ℕ → ℕ → List Piece
begun file es t most channel = of_channel channel (times_in t)
    ++ (if nat_lt channel most then of_channel channel (kept_entries file es) else [])

-- a writer got packets, merged
pub record Merges (parts : List Piece) (got gets : Option (List ℕ)) : Type 0 where
  pub merged : List Piece
  pub merge : IsMerge parts merged
  pub taken : Appends got gets (bytes_of merged)

-- time packets within the range of the relative time counter, from a UTC second of the years 1970 to 2099 on
pub record IsSmall (t : Times) : Type 0 where
  pub end : t.end ≤ 28147498
  pub start : t.start < 4102444800
