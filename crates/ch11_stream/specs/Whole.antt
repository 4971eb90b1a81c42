-- What the packets of a reading are together: those of the file, up to its end or its first fault.
use Rattle.std.specs.Prelude.{◌≡◌, ℕ, List, [], ◌∷◌, reverse, Some, Ok, Err}
use Rattle.ch11_reader.specs.declared.error.Refusal.{Refusal}
use Rattle.ch11_reader.specs.declared.packet.Packet.{Packet}
use Rattle.ch11_reader.specs.Recording.{packets_in}
use Rattle.ch11_reader.specs.Listing.{listing}
use Rattle.ch11_stream.specs.declared.fault.StreamFault.TheVariants.{Refused}
use Rattle.ch11_stream.specs.Reading.{IsEnd, IsStep, IsReadingStopped, Reading, at_start}

-- these packets were read, one after the other
abbrev pub Steps : Reading → List Packet → Reading → Type 0
Steps before [] now = before ≡ now
Steps before (p ∷ ps) now = (next : Reading) × IsStep before next p × Steps next ps now

-- Packets were read from the start of a file. Where no more come, they are the file's, as an index lists them. Where
-- the next one is refused, the file is refused, with that fault.
abbrev pub StepsReadTheFile : Type 0
StepsReadTheFile =
    (file : List ℕ) (ps : List Packet) (now last : Reading) → Steps (at_start (Some file)) ps now
    → (IsEnd now last → (packets_in file ≡ Ok (reverse now.earlier)) × (ps ≡ listing (reverse now.earlier)))
    × ((r : Refusal) → IsReadingStopped now last (Refused r) → packets_in file ≡ Err r)
