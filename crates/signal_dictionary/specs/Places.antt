-- The place of a signal in the words of a dictionary (own choice): a data word, and perhaps bits of it, or two data
-- words.
use Rattle.std.specs.Prelude.{ℕ, List, [], ◌∷◌, drop, Ok, Err, codes, if◌then◌else◌}
use Rattle.std.specs.Str.{bytes_eq}
use Rattle.text_lines.specs.Words.{Text, begins_with}
use Rattle.judge_rules.specs.declared.fault.RuleFault.TheVariants.{Word}
use Rattle.judge_rules.specs.Faults.{Read, both, made}
use Rattle.judge_rules.specs.Values.{number_in}
use Rattle.signal_dictionary.specs.declared.signals.Place.{Place}
use Rattle.signal_dictionary.specs.declared.signals.Place.TheVariants.{Bits, Pair}

abbrev pub small_in : ℕ → ℕ → List Text → Read ℕ
small_in low high rest = number_in low high rest

-- the upper and the lower bit; all where none are told
abbrev pub bits_in : List Text → Read (ℕ × ℕ)
bits_in rest =
    if begins_with (codes "bits") rest then both (small_in 0 15 (drop 1 rest)) (small_in 0 15 (drop 2 rest))
    else Ok (15, 0)

abbrev pub behind_bits : List Text → List Text
behind_bits rest = if begins_with (codes "bits") rest then drop 3 rest else rest

abbrev pub word_in : List Text → Read Place
word_in rest = made (λ (word, bits). Bits word bits.0 bits.1) (both (small_in 1 32 rest) (bits_in (drop 1 rest)))

abbrev pub behind_word : List Text → List Text
behind_word rest = behind_bits (drop 1 rest)

abbrev pub pair_in : List Text → Read Place
pair_in rest = made Pair (small_in 1 31 rest)

abbrev pub place_named : Text → List Text → Read Place
place_named name rest =
    if bytes_eq name (codes "word") then word_in rest
    else if bytes_eq name (codes "words") then pair_in rest
    else Err Word

abbrev pub place_in : List Text → Read Place
place_in [] = Err Word
place_in (name ∷ rest) = place_named name rest

-- what follows it
abbrev pub behind_name : Text → List Text → List Text
behind_name name rest =
    if bytes_eq name (codes "word") then behind_word rest
    else if bytes_eq name (codes "words") then drop 1 rest
    else rest

abbrev pub behind_place : List Text → List Text
behind_place [] = []
behind_place (name ∷ rest) = behind_name name rest
