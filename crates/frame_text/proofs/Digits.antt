-- Numbers and data words as they are printed: their digits, and what is read of them.
use Rattle.std.proofs.Common.{◌≡◌, ℕ, ◌+◌, ◌/◌, ◌%◌, ◌^◌, ◌<◌, true, List, [], ◌∷◌, ◌++◌, Some, refl, arith}
use Rattle.std.specs.Prelude.{decimal}
use Rattle.std.specs.Fmt.{digit_glyph}
use Rattle.std.proofs.lemmas.Bool.Decides.{nat_tests}
use Rattle.std.proofs.lemmas.Fmt.{decimal_by_steps}
use Rattle.numerals.proofs.Back.{decimal_back, four_back}
use Rattle.frame_text.specs.Tokens.{in_word}
use Rattle.numerals.specs.Numerals.{number_of, data_word_of}
use Rattle.frame_text.specs.PrintedMessages.{data_word_text}
use Rattle.frame_text.proofs.Tables.{pick}

-- a run of letters, digits and _
abbrev pub IsRun : List ℕ → Type 0
IsRun [] = Unit {0}
IsRun (b ∷ bs) = (in_word b ≡ true) × IsRun bs

run_more : (bs : List ℕ) (b : ℕ) → IsRun bs → in_word b ≡ true → IsRun (bs ++ b ∷ [])
run_more [] b r h = (h, tt)
run_more (c ∷ bs) b r h = (r.0, run_more bs b r.1 h)

digit_in_word : (d : ℕ) → d < 10 → in_word (48 + d) ≡ true
digit_in_word d h = grind (arith, nat_tests)

pub decimal_run : (n : ℕ) → n < 2 ^ 64 → IsRun (decimal n)
decimal_run = decimal_by_steps (λ n ds. IsRun ds) (λ n h. (digit_in_word n h, tt)) (λ n ds h r. run_more ds (48 + n % 10) r (digit_in_word (n % 10) (omega arith)))

small : (n : ℕ) → n < 10 ^ 7 → n < 2 ^ 64
small n h = omega (arith, h)

-- a number of at most seven digits reads back
pub number_back : (n : ℕ) → n < 10 ^ 7 → number_of (decimal n) ≡ Some n
number_back n h = decimal_back 7 n (omega arith) h (small n h)

glyph_in_word : (d : ℕ) → d < 16 → in_word (digit_glyph true d) ≡ true
glyph_in_word = pick (λ d. in_word (digit_glyph true d) ≡ true) 16 (refl, (refl, (refl, (refl, (refl, (refl, (refl, (refl, (refl, (refl, (refl, (refl, (refl, (refl, (refl, (refl, tt))))))))))))))))

pub data_word_run : (w : ℕ) → w < 65536 → IsRun (data_word_text w)
data_word_run w h = (glyph_in_word (w / 256 / 16) (omega (arith, h)), (glyph_in_word (w / 256 % 16) (omega arith), (glyph_in_word (w % 256 / 16) (omega arith), (glyph_in_word (w % 256 % 16) (omega arith), tt))))

-- a data word reads back
pub data_word_back : (w : ℕ) → w < 65536 → data_word_of (data_word_text w) ≡ Some w
data_word_back w h = (four_back w h).reads
