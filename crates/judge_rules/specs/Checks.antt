-- The check of a rule (own choice): a name, and what stands behind it up to the end of the line.
use Rattle.std.specs.Prelude.{ℕ, nat_le, List, [], ◌∷◌, drop, Ok, Err, Option, Some, None, codes, if◌then◌else◌}
use Rattle.std.specs.Str.{bytes_eq}
use Rattle.text_lines.specs.Words.{Text, begins_with, meaning}
use Rattle.mil_word.specs.Fields.{most_words}
use Rattle.judge_rules.specs.declared.fault.RuleFault.TheVariants.{Word, Range}
use Rattle.judge_rules.specs.declared.rules.Bounds.{Bounds}
use Rattle.judge_rules.specs.declared.rules.Datum.{Datum}
use Rattle.judge_rules.specs.declared.rules.Kind.{Kind}
use Rattle.judge_rules.specs.declared.rules.WordRange.{WordRange}
use Rattle.judge_rules.specs.declared.rules.Check.{Check}
use Rattle.judge_rules.specs.declared.rules.Check.TheVariants as check
use Rattle.judge_rules.specs.declared.checks.CheckName.{CheckName}
use Rattle.judge_rules.specs.declared.checks.CheckName.TheVariants.{Sound, Failed, Clean, Status, Data, Response}
use Rattle.judge_rules.specs.declared.checks.CheckName.TheVariants.{Period, Count, DataWord, Whole}
use Rattle.judge_rules.specs.Faults.{Read, both, made, ended}
use Rattle.judge_rules.specs.Kinds.{counted_in}
use Rattle.judge_rules.specs.Values.{number_in, word_in, bounds_in, data_in}

abbrev pub names : List (Text × CheckName)
names =
    (codes "ok", Sound) ∷ (codes "fail", Failed) ∷ (codes "clean", Clean) ∷ (codes "status", Status)
    ∷ (codes "data", Data) ∷ (codes "response", Response) ∷ (codes "period", Period) ∷ (codes "count", Count)
    ∷ (codes "word", DataWord) ∷ (codes "whole", Whole) ∷ []

unfoldable pub name_of : Text → Option CheckName
name_of word = meaning names word

abbrev pub mask_in : List Text → Read ℕ
mask_in [] = Ok 0xFFFF
mask_in (word ∷ rest) = if bytes_eq word (codes "mask") then ended (word_in rest) (drop 1 rest) else Err Word

abbrev pub status_in : List Text → Read Datum
status_in rest =
    made (λ (value, mask). record { value = value; mask = mask }) (both (word_in rest) (mask_in (drop 1 rest)))

abbrev pub only_bounds : ℕ → List Text → Read Bounds
only_bounds most rest = ended (bounds_in most rest) (drop 2 rest)

-- how many messages, all of them or those of a kind
abbrev pub counting : Bounds × Option Kind → Check
counting (bounds, None) = check.Count bounds
counting (bounds, Some kind) = check.CountOf bounds kind

abbrev pub count_in : List Text → Read Check
count_in rest = made counting (both (bounds_in 9999999 rest) (counted_in (drop 2 rest)))

-- which of the data words, counted from 1
abbrev pub place_in : List Text → Read ℕ
place_in rest = number_in 1 most_words rest

-- the least value of a data word and the greatest
abbrev pub in_order : Read (ℕ × (ℕ × ℕ)) → Read WordRange
in_order (Err f) = Err f
in_order (Ok (place, (low, high))) =
    if nat_le low high then Ok (record { place = place; low = low; high = high }) else Err Range

abbrev pub range_in : Read ℕ → List Text → Read WordRange
range_in place rest = ended (in_order (both place (both (word_in rest) (word_in (drop 1 rest))))) (drop 2 rest)

-- the values of a data word, or by how much it grows
abbrev pub behind_place : Read ℕ → List Text → Read Check
behind_place place rest =
    if begins_with (codes "step") rest then made check.DataStep (range_in place (drop 1 rest))
    else made check.DataWord (range_in place rest)

unfoldable pub data_word_in : List Text → Read Check
data_word_in rest = behind_place (place_in rest) (drop 1 rest)

-- gaps are told up to 255 ticks; other numbers have seven digits
abbrev pub check_behind : Option CheckName → List Text → Read Check
check_behind None rest = Err Word
check_behind (Some Sound) rest = ended (Ok check.Sound) rest
check_behind (Some Failed) rest = ended (Ok check.Failed) rest
check_behind (Some Clean) rest = ended (Ok check.Clean) rest
check_behind (Some Status) rest = made check.Status (status_in rest)
check_behind (Some Data) rest = made (λ (found : List Datum). check.Data (record { items = found })) (data_in rest)
check_behind (Some Response) rest = made check.Response (only_bounds 255 rest)
check_behind (Some Period) rest = made check.Period (only_bounds 9999999 rest)
check_behind (Some Count) rest = count_in rest
check_behind (Some DataWord) rest = data_word_in rest
check_behind (Some Whole) rest = ended (Ok check.Whole) rest

abbrev pub check_in : List Text → Read Check
check_in [] = Err Word
check_in (name ∷ rest) = check_behind (name_of name) rest
