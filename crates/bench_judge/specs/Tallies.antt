-- What a tally says of the messages that were passed.
use Rattle.std.specs.Prelude.{◌≡◌, ℕ, Bool, true, false, not, ◌&&◌, ◌+◌, ◌-◌, ◌<◌, if◌then◌else◌}
use Rattle.std.specs.Prelude.{List, [], ◌∷◌, ◌++◌, length, reverse, slice_get, take, Option, None, Some}
use Rattle.std.specs.List.{flat_map}
use Rattle.std.specs.Io.KnownBytes.{Appends}
use Rattle.ch11_reader.specs.declared.packet.Packet.{Packet}
use Rattle.ch11_reader.specs.declared.skip.Skip.{Skip}
use Rattle.ch11_layout.specs.Stamps.{time_of}
use Rattle.judge_rules.specs.declared.rules.Rule.{Rule}
use Rattle.bench_judge.specs.declared.verdicts.Miss.{Miss}
use Rattle.bench_judge.specs.declared.tallies.Tally.{Tally}
use Rattle.bench_judge.specs.declared.telling.Telling.{Telling}
use Rattle.bench_judge.specs.Selection.{Origins, selects}
use Rattle.bench_judge.specs.Checks.{meets}
use Rattle.bench_judge.specs.Kept.{kept}
use Rattle.bench_select.specs.Viewed.{Viewed}
use Rattle.bench_judge.specs.Verdicts.{counted, latest, missed, misses, selected}
use Rattle.bench_judge.specs.Packets.{packets_missed}
use Rattle.bench_judge.specs.Told.{told_moment, told_packet}
use Rattle.bench_judge.specs.Lines.{miss_line}

-- what is compared with the next message of each channel; the history stands newest first
abbrev pub IsLatest : Rule → Origins → List Viewed → Tally → Type 0
IsLatest rule origins history tally =
    (channel : ℕ) → kept tally.latest channel ≡ latest rule origins channel history

-- how many messages were selected, counted and missed so far
pub record IsTally (rule : Rule) (origins : Origins) (history : List Viewed) (tally : Tally) : Type 0 where
  pub selected : tally.selected ≡ length (selected rule origins history)
  pub counted : tally.counted ≡ length (counted rule origins history)
  pub missed : tally.missed ≡ length (missed rule origins history)
  pub latest : IsLatest rule origins history tally

-- a tally for each rule, in their order
pub record AreTallies {R T : Type 0} (is_tally : R → Origins → List Viewed → T → Type 0) (rules : List R)
    (origins : Origins) (history : List Viewed) (tallies : List T) : Type 0 where
  pub many : length tallies ≡ length rules
  pub each : (place : ℕ) (rule : R) (tally : T) → slice_get rules place ≡ Some rule
      → slice_get tallies place ≡ Some tally → is_tally rule origins history tally

-- the next message is selected and misses the rule
abbrev pub misses_next : Rule → Origins → List Viewed → Viewed → Bool
misses_next rule origins history h =
    selects rule origins h.0 h.1 && not (meets rule.check (latest rule origins h.0 history) h.1)

-- a message that misses a rule, by its number
abbrev pub miss_at : ℕ → Viewed → Miss
miss_at number h = record { number = number; channel = h.0; stamp = time_of h.1 }

-- this message where it misses a rule, and none where it does not
abbrev pub IsMissIf : Bool → Miss → Option Miss → Type 0
IsMissIf misses miss None = false ≡ misses
IsMissIf misses miss (Some found) = (true ≡ misses) × (found ≡ miss)

-- the lines of the messages that miss a rule
abbrev pub miss_lines : Rule → Origins → List Viewed → List ℕ
miss_lines rule origins history = flat_map (miss_line rule.line) (misses rule origins history)

-- the messages of a history that miss a rule, in their order, by whether the next one of a history misses it
abbrev pub missed_by : (List Viewed → Viewed → Bool) → List Viewed → List Miss
missed_by next [] = []
missed_by next (h ∷ history) =
    if next history h then missed_by next history ++ miss_at (length history + 1) h ∷ [] else missed_by next history

-- a tally of the messages so far, and those of them that missed the rule of a line were written
pub record IsWriting {T : Type 0} (is_tally : List Viewed → T → Type 0) (next : List Viewed → Viewed → Bool) (line : ℕ)
    (got : Option (List ℕ)) (history : List Viewed) (gets : Option (List ℕ)) (tally : T) : Type 0 where
  pub tallied : is_tally history tally
  pub written : Appends got gets (flat_map (miss_line line) (missed_by next history))

-- the first messages that missed the rule so far, at most so many, were told, and so many more will be
pub record IsTelling (rule : Rule) (origins : Origins) (most : ℕ) (history : List Viewed) (telling : Telling)
    : Type 0 where
  pub tallied : IsTally rule origins history telling.tally
  pub told : telling.text.items
      ≡ flat_map (told_moment rule origins) (take most (reverse (missed rule origins history)))
  pub left : telling.left ≡ most - length (missed rule origins history)

-- the first packets that missed the rule so far, at most so many, were told, and so many more will be
pub record IsPacketTelling (skips : List Skip) (rule : Rule) (most : ℕ) (packets : List Packet) (text : List ℕ)
    (more : ℕ) : Type 0 where
  pub told : text ≡ flat_map (told_packet skips) (take most (packets_missed rule packets))
  pub left : more ≡ most - length (packets_missed rule packets)

-- a text was told and one less is left, or none was left
pub record IsPut (told : List ℕ) (telling next : Telling) : Type 0 where
  pub tally : next.tally ≡ telling.tally
  pub full : telling.left ≡ 0 → (next.text.items ≡ telling.text.items) × (next.left ≡ telling.left)
  pub some : 0 < telling.left
      → (next.text.items ≡ telling.text.items ++ told) × (next.left ≡ telling.left - 1)
