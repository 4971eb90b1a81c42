-- The words that a check is read from.
use Rattle.std.proofs.Common.{◌≡◌, ℕ, List, [], ◌∷◌, drop, refl}
use Rattle.std.specs.Prelude.{Some, slice_get}
use Rattle.text_lines.specs.Words.{Text}
use Rattle.judge_rules.specs.Checks.{check_behind, check_in, in_order, name_of, range_in}
use Rattle.judge_rules.specs.Faults.{Read, both, ended}
use Rattle.judge_rules.specs.Values.{word_in}

-- what stands behind two words
pub range_behind : (place : Read ℕ) (words : List Text) → ended (in_order (both place (both (word_in words) (word_in (drop 1 words))))) (drop 1 (drop 1 words)) ≡ range_in place words
range_behind place [] = refl
range_behind place (word ∷ words) = refl

-- a check by the name that is its first word
pub check_named : (words : List Text) (word : Text) → Some word ≡ slice_get words 0 → check_in words ≡ check_behind (name_of word) (drop 1 words)
check_named [] word is = absurd cc
check_named (first ∷ words) word is = let same : word ≡ first = cc in rw same refl
