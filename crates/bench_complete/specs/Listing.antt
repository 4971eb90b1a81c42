-- What is kept of the packets of a recording: where they stand, what their headers say, and whether one tells the time.
use Rattle.std.specs.Prelude.{◌≡◌, ℕ, ◌<◌, ◌^◌, ◌||◌, Bool, List, [], ◌∷◌, ◌++◌}
use Rattle.std.specs.List.{AllByRecursion}
use Rattle.ch11_reader.specs.declared.packet.Packet.{Packet}
use Rattle.ch11_reader.specs.declared.skip.Skip.{Skip}
use Rattle.ch11_reader.specs.Recording.{Found}
use Rattle.ch11_stream.specs.declared.stretch.Stretch.{Stretch}
use Rattle.ch11_stream.specs.declared.stretch.Stretch.TheVariants.{Sound, Skipped}
use Rattle.bench_complete.specs.declared.listing.Listed.{Listed}
use Rattle.bench_complete.specs.declared.placed.Placed.{Placed}
use Rattle.bench_complete.specs.Judging.{has_time, tells_time_by}

-- the place of a packet that an index lists
abbrev pub placed : Packet → Placed
placed p = record { offset = p.offset; header = p.header }

-- the places of packets
abbrev pub places_of : List Found → List Placed
places_of [] = []
places_of (p ∷ ps) = record { offset = p.offset; header = p.header } ∷ places_of ps

-- counters have 48 bits
abbrev pub AreSmall : List Placed → Type 0
AreSmall es = AllByRecursion (λ (e : Placed). e.header.counter < 2 ^ 48) es

-- what is kept of the packets of a file
pub record IsListed (file : List ℕ) (ps : List Found) (l : Listed) : Type 0 where
  pub places : l.packets.items ≡ places_of ps
  pub timed : l.timed ≡ has_time file ps

-- ---- of a recording that may be damaged, behind one more stretch, by the bytes that are kept of it

abbrev pub places_with : List Placed → Stretch → List Placed
places_with es (Sound p) = es ++ (placed p ∷ [])
places_with es (Skipped s) = es

abbrev pub timed_with : Bool → Stretch → List ℕ → Bool
timed_with timed (Sound p) kept = timed || tells_time_by p.header kept
timed_with timed (Skipped s) kept = timed

abbrev pub skips_with : List Skip → Stretch → List Skip
skips_with skips (Sound p) = skips
skips_with skips (Skipped s) = skips ++ (s ∷ [])

-- the counter of a packet has 48 bits
abbrev pub IsSmallStretch : Stretch → Type 0
IsSmallStretch (Sound p) = p.header.counter < 2 ^ 48
IsSmallStretch (Skipped s) = Unit {0}
