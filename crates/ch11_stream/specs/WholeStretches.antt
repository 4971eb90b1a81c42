-- What the stretches of a reading are together: those of the file, up to its end.
use Rattle.std.specs.Prelude.{◌≡◌, List, [], ◌∷◌, ℕ, Some, Ok}
use Rattle.ch11_reader.specs.declared.packet.Packet.{Packet}
use Rattle.ch11_reader.specs.declared.skip.Skip.{Skip}
use Rattle.ch11_reader.specs.Listing.{listing}
use Rattle.ch11_reader.specs.Skipping.{packets_read, skips_in}
use Rattle.ch11_stream.specs.declared.stretch.Stretch.{Stretch}
use Rattle.ch11_stream.specs.declared.stretch.Stretch.TheVariants.{Sound, Skipped}
use Rattle.ch11_stream.specs.Reading.{IsEnd, Reading, at_start}
use Rattle.ch11_stream.specs.Stretches.{IsNextStretch}

-- these stretches were read, one after the other
abbrev pub ReadsStretches : Reading → List Stretch → Reading → Type 0
ReadsStretches before [] now = before ≡ now
ReadsStretches before (s ∷ ss) now = (next : Reading) × IsNextStretch (Ok (Some s)) before next
    × ReadsStretches next ss now

-- the packets among them, and the skips
abbrev pub sound_among : List Stretch → List Packet
sound_among [] = []
sound_among (Sound p ∷ others) = p ∷ sound_among others
sound_among (Skipped s ∷ others) = sound_among others

abbrev pub skipped_among : List Stretch → List Skip
skipped_among [] = []
skipped_among (Sound p ∷ others) = skipped_among others
skipped_among (Skipped s ∷ others) = s ∷ skipped_among others

-- Stretches were read from the start of a file. Where no more come, their packets are those that are read of the file,
-- damaged or not, as an index lists them, and their skips are its.
abbrev pub StretchesReadTheFile : Type 0
StretchesReadTheFile =
    (file : List ℕ) (ss : List Stretch) (now last : Reading) → ReadsStretches (at_start (Some file)) ss now
    → IsEnd now last
    → (sound_among ss ≡ listing (packets_read file)) × (skipped_among ss ≡ skips_in file)
