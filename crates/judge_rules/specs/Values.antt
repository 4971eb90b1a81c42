-- Values in the words of a rule (own choice).
use Rattle.std.specs.Prelude.{ℕ, ◌&&◌, nat_le, ◌==◌, slice_index, List, [], ◌∷◌, drop, take, length}
use Rattle.std.specs.Prelude.{Ok, Err, Option, Some, None, codes, if◌then◌else◌}
use Rattle.std.proofs.Common.{zero, suc}
use Rattle.std.specs.Str.{bytes_eq}
use Rattle.numerals.specs.Numerals as numerals
use Rattle.text_lines.specs.Words.{Text}
use Rattle.mil_word.specs.Fields.{most_words}
use Rattle.judge_rules.specs.declared.fault.RuleFault.{RuleFault}
use Rattle.judge_rules.specs.declared.fault.RuleFault.TheVariants.{Word, Number, Range}
use Rattle.judge_rules.specs.declared.rules.Bounds.{Bounds}
use Rattle.judge_rules.specs.declared.rules.Datum.{Datum}
use Rattle.judge_rules.specs.Faults.{Read, both, made}

-- a number from low to high
abbrev pub within : ℕ → ℕ → Option ℕ → Read ℕ
within low high None = Err Number
within low high (Some n) = if nat_le low n && nat_le n high then Ok n else Err Range

-- a number of this range
abbrev pub number_of : ℕ → ℕ → Text → Read ℕ
number_of low high word = within low high (numerals.number_of word)

abbrev pub number_in : ℕ → ℕ → List Text → Read ℕ
number_in low high [] = Err Word
number_in low high (word ∷ rest) = number_of low high word

-- a number, or `*` for each of them
abbrev pub choice_in : ℕ → ℕ → List Text → Read (Option ℕ)
choice_in low high [] = Err Word
choice_in low high (word ∷ rest) = if bytes_eq word (codes "*") then Ok None else made Some (number_of low high word)

abbrev pub value_or_fault : Option ℕ → Read ℕ
value_or_fault None = Err Number
value_or_fault (Some n) = Ok n

abbrev pub word_of : Text → Read ℕ
word_of word = value_or_fault (numerals.data_word_of word)

abbrev pub word_in : List Text → Read ℕ
word_in [] = Err Word
word_in (word ∷ rest) = word_of word

-- the least number and the greatest
abbrev pub bounds_of : Read (ℕ × ℕ) → Read Bounds
bounds_of (Err f) = Err f
bounds_of (Ok (low, high)) = if nat_le low high then Ok (record { low = low; high = high }) else Err Range

abbrev pub bounds_in : ℕ → List Text → Read Bounds
bounds_in most rest = bounds_of (both (number_in 0 most rest) (number_in 0 most (drop 1 rest)))

-- a value and its mask
abbrev pub with_mask : Read (ℕ × ℕ) → Read Datum
with_mask read = made (λ (value, mask). record { value = value; mask = mask }) read

-- a value, and behind a slash its mask; without one all bits count; `....` is any word
unfoldable pub datum_of : Text → Read Datum
datum_of word =
    if bytes_eq word (codes "....") then Ok (record { value = 0; mask = 0 })
    else if length word == 9 && slice_index word 4 == 47
    then with_mask (both (word_of (take 4 word)) (word_of (drop 5 word)))
    else with_mask (both (word_of word) (Ok 0xFFFF))

abbrev pub fault_or : Read Datum → RuleFault → RuleFault
fault_or (Err f) other = f
fault_or (Ok d) other = other

-- the fault of words that are too many to be data words: one of them may spell none
abbrev pub many_fault : List Text → RuleFault
many_fault [] = Range
many_fault (word ∷ rest) = fault_or (datum_of word) (many_fault rest)

abbrev pub and_then : {X Y : Type 0} → Read X → (X → Read Y) → Read Y
and_then (Ok x) next = next x
and_then (Err f) next = Err f

-- data words to the end, so many at most
abbrev pub all_data : ℕ → List Text → Read (List Datum)
all_data room [] = Ok []
all_data zero (word ∷ rest) = Err (many_fault (word ∷ rest))
all_data (suc room) (word ∷ rest) = and_then (datum_of word) (λ d. and_then (all_data room rest) (λ ds. Ok (d ∷ ds)))

abbrev pub data_in : List Text → Read (List Datum)
data_in rest = all_data most_words rest
