-- The chosen messages of a channel on their way, one after the other.
use Rattle.std.specs.Prelude.{◌≡◌, ℕ, List, [], ◌∷◌, ◌++◌, length, drop, Option, None, Some, Result, Ok, Err}
use Rattle.ch11_layout.specs.Stamps.{Recorded}
use Rattle.ch11_reader.specs.declared.packet.Packet.{Packet}
use Rattle.ch11_reader.specs.Contents.{total_in}
use Rattle.ch11_reader.specs.Recording.{Found}
use Rattle.ch11_stream.specs.Folding.{IsFaultOf}
use Rattle.ch11_stream.specs.Reading.{Reading, at_start}
use Rattle.ch11_stream.specs.Whole.{Steps}
use Rattle.ch11_stream.specs.declared.fault.StreamFault.{StreamFault}
use Rattle.bench_select.specs.declared.selection.Selection.{Selection}
use Rattle.bench_compare.specs.Chosen.{chosen_behind}

-- a reading of a file, somewhere in it
abbrev pub IsUnderWay : List ℕ → Reading → Type 0
IsUnderWay file now = (entries : List Packet) × Steps (at_start (Some file)) entries now

-- the packets that were read, and the messages that are kept of them
pub record Passing : Type 0 where
  pub reading : Reading
  pub kept : List Recorded

-- the chosen messages that a reading of these packets still has in front of it
abbrev pub to_come : Selection → ℕ → List Found → Reading → List Recorded
to_come s channel ps now = chosen_behind s channel (total_in now.earlier) (drop (length now.earlier) ps)

-- those that are kept, and these
abbrev pub pass_to_come : Selection → ℕ → List Found → Passing → List Recorded
pass_to_come s channel ps pass = pass.kept ++ to_come s channel ps pass.reading

-- some are kept, if any is to come
pub record AreKept (s : Selection) (channel : ℕ) (file : List ℕ) (ps : List Found) (before now : Passing) : Type 0 where
  pub some : (m : Recorded) (others : List Recorded) → now.kept ≡ m ∷ others
      → IsUnderWay file now.reading × (pass_to_come s channel ps before ≡ pass_to_come s channel ps now)
  pub none : now.kept ≡ [] → pass_to_come s channel ps before ≡ []

abbrev pub Fills : Selection → ℕ → List ℕ → List Found → {A : Type 0} → Result A StreamFault → Passing → Passing
    → Type 0
Fills s channel file ps (Ok x) before now = AreKept s channel file ps before now
Fills s channel file ps (Err f) before now = IsFaultOf file f

-- a message was taken
pub record IsTaken (s : Selection) (channel : ℕ) (file : List ℕ) (ps : List Found) (m : Recorded) (before now : Passing)
    : Type 0
  where
    pub way : IsUnderWay file now.reading
    pub first : pass_to_come s channel ps before ≡ m ∷ pass_to_come s channel ps now

-- what taking the next message comes to
abbrev pub Takes : Selection → ℕ → List ℕ → List Found → Result (Option Recorded) StreamFault → Passing → Passing
    → Type 0
Takes s channel file ps (Ok (Some m)) before now = IsTaken s channel file ps m before now
Takes s channel file ps (Ok None) before now = pass_to_come s channel ps before ≡ []
Takes s channel file ps (Err f) before now = IsFaultOf file f
