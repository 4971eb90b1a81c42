-- What the time stamps of a recording are, channel by channel (IRIG 106-17 Chapter 11, packet flags, intra-packet time
-- stamps). Times of a selection count from the first time of day of a channel (own choice).
use Rattle.std.specs.Prelude.{◌≡◌, ℕ, ◌<◌, ◌==◌, ◌&&◌, ◌||◌, Bool, true, false, if◌then◌else◌, List, [], ◌∷◌}
use Rattle.std.specs.Prelude.{slice_index_or, slice_set, Option, None, Some}
use Rattle.std.specs.List.{list_any}
use Rattle.ch11_f1.specs.BodyReading.{Message}
use Rattle.ch11_reader.specs.Recording.{Found}
use Rattle.ch11_layout.specs.Stamps.{kind_of, ticks_of_day}
use Rattle.ch11_layout.specs.declared.stamps.StampKind.{StampKind}
use Rattle.ch11_layout.specs.declared.stamps.StampKind.TheVariants.{Counter, TimeOfDay, Unknown}
use Rattle.bench_select.specs.Channels.{AreMarks}
use Rattle.bench_select.specs.declared.stamps.Stamps.{Stamps}

-- the first stamp of messages, as a number
abbrev pub first_stamp : List Message → Option ℕ
first_stamp [] = None
first_stamp (m ∷ ms) = Some m.stamp

-- a time of day
abbrev pub ticks_if : StampKind → Option ℕ → Option ℕ
ticks_if Counter first = None
ticks_if TimeOfDay None = None
ticks_if TimeOfDay (Some number) = Some (ticks_of_day number)
ticks_if Unknown first = None

-- the first of times of day
abbrev pub first_ticks : StampKind → List Message → Option ℕ
first_ticks kind ms = ticks_if kind (first_stamp ms)

abbrev pub first_or : Option ℕ → Option ℕ → Option ℕ
first_or None other = other
first_or (Some ticks) other = Some ticks

-- that of the messages of a packet, where it is of a channel
abbrev pub origin_of : ℕ → Found → Option ℕ
origin_of channel p = if p.header.channel == channel then first_ticks (kind_of p.header) p.messages else None

-- the time of day of the first message of a channel whose stamp is one
abbrev pub origin_in : ℕ → List Found → Option ℕ
origin_in channel [] = None
origin_in channel (p ∷ ps) = first_or (origin_of channel p) (origin_in channel ps)

-- one of which no time is known
abbrev pub unknown_if : StampKind → Option ℕ → Bool
unknown_if Counter first = false
unknown_if TimeOfDay first = false
unknown_if Unknown None = false
unknown_if Unknown (Some number) = true

-- there are messages of which no time is known
abbrev pub has_unknown : StampKind → List Message → Bool
has_unknown kind ms = unknown_if kind (first_stamp ms)

-- a channel has some
abbrev pub is_unknown_of : ℕ → Found → Bool
is_unknown_of channel p = (p.header.channel == channel) && has_unknown (kind_of p.header) p.messages

abbrev pub is_unknown : List Found → ℕ → Bool
is_unknown ps channel = list_any (is_unknown_of channel) ps

abbrev pub AreOrigins : List Found → List (Option ℕ) → Type 0
AreOrigins ps origins = (channel : ℕ) → channel < 65536 → slice_index_or origins channel None ≡ origin_in channel ps

abbrev pub AreUnknown : List Found → List Bool → Type 0
AreUnknown ps marks = AreMarks (is_unknown ps) marks

pub record AreStamps (ps : List Found) (s : Stamps) : Type 0 where
  pub origins : AreOrigins ps s.origins.items
  pub unknown : AreUnknown ps s.unknown.items

-- origins with a time of day of a channel, which has a place, unless it has one
abbrev pub begun : ℕ → Option ℕ → List (Option ℕ) → List (Option ℕ)
begun channel ticks origins = slice_set origins channel (first_or (slice_index_or origins channel None) ticks)

-- the same, where there may be no place of the channel before: a channel without one has no time of day
abbrev pub IsBegun : ℕ → Option ℕ → List (Option ℕ) → List (Option ℕ) → Type 0
IsBegun channel ticks before after = (k : ℕ) → slice_index_or after k None
    ≡ (if channel == k then first_or (slice_index_or before k None) ticks else slice_index_or before k None)

-- marks with that of a channel, which has a place
abbrev pub marked : ℕ → Bool → List Bool → List Bool
marked channel unknown marks = slice_set marks channel (slice_index_or marks channel false || unknown)

-- the same, where there may be no place of the channel before: a channel without one is not marked
abbrev pub IsMarked : ℕ → Bool → List Bool → List Bool → Type 0
IsMarked channel unknown before after = (k : ℕ) → slice_index_or after k false
    ≡ (if channel == k then slice_index_or before k false || unknown else slice_index_or before k false)
