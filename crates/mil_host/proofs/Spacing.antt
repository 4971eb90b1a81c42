-- Words with single spaces between them are the words of their text.
use Rattle.std.proofs.Common.{◌≡◌, ℕ, ◌≤◌, List, true, false, [], ◌∷◌, ◌++◌, refl, ap, All, append-nil, arith}
use Rattle.std.specs.Prelude.{Bool, nat_lt}
use Rattle.std.proofs.lemmas.Bool.Decides.{nat_tests}
use Rattle.std.specs.List.{filter, slice_split, flat_map}
use Rattle.std.proofs.lemmas.List.Elements.{All-nil, All-cons, All-append}
use Rattle.std.proofs.lemmas.List.Splits.{slice_split_none, slice_split_at}
use Rattle.text_lines.specs.Words.{Text, is_space, has_bytes, words}
use Rattle.mil_host.specs.Printing.{spaced, spaced_word}

-- each byte is behind the space and the control characters of ASCII
abbrev pub AreVisible : Text → Type 0
AreVisible [] = Unit {0}
AreVisible (b ∷ word) = (nat_lt 32 b ≡ true) × AreVisible word

-- a word has bytes, and each of them is visible
pub record IsWord (word : Text) : Type 0 where
  pub some : has_bytes word ≡ true
  pub visible : AreVisible word

abbrev pub AreWords : List Text → Type 0
AreWords [] = Unit {0}
AreWords (word ∷ rest) = IsWord word × AreWords rest

no_space : (b : ℕ) → nat_lt 32 b ≡ true → is_space b ≡ false
no_space b above = go (is_space b) refl
  where
    go : (s : Bool) → is_space b ≡ s → is_space b ≡ false
    go false is = is
    go true is =
        let at : b ≡ 32 = grind (arith, nat_tests, is) in
        let wrong : nat_lt 32 32 ≡ true = rw at at above in
        cc

each_other : (word : Text) → AreVisible word → All (λ b. is_space b ≡ false) word
each_other [] visible = All-nil (λ b. is_space b ≡ false)
each_other (b ∷ word) visible = All-cons (λ b. is_space b ≡ false) b word (no_space b visible.0) (each_other word visible.1)

-- a word and a space before a text
pub words-word : (word text : Text) → IsWord word → words (word ++ 32 ∷ text) ≡ word ∷ words text
words-word word text is = rw (slice_split_at is_space word 32 text (each_other word is.visible) refl, is.some) refl

split_spaced : (word : Text) (rest : List Text) → AreWords (word ∷ rest) → slice_split is_space (word ++ flat_map spaced_word rest) ≡ word ∷ rest
split_spaced word [] are = rw (append-nil word) (slice_split_none is_space word (each_other word are.0.visible))
split_spaced word (next ∷ rest) are =
    rw (slice_split_at is_space word 32 (next ++ flat_map spaced_word rest) (each_other word are.0.visible) refl)
    (ap (λ (ws : List Text). word ∷ ws) (split_spaced next rest are.1))

filter_words : (ws : List Text) → AreWords ws → filter has_bytes ws ≡ ws
filter_words [] are = refl
filter_words (w ∷ ws) are = rw are.0.some (ap (λ (rest : List Text). w ∷ rest) (filter_words ws are.1))

-- the words of a text that was made of words
pub words-spaced : (ws : List Text) → AreWords ws → words (spaced ws) ≡ ws
words-spaced [] are = refl
words-spaced (w ∷ ws) are = rw (split_spaced w ws are) (filter_words (w ∷ ws) are)

above_32 : (b : ℕ) → nat_lt 32 b ≡ true → 32 ≤ b
above_32 b above = grind (arith, nat_tests, above)

-- a word has no control character
pub one_line-word : (word : Text) → AreVisible word → All (λ b. 32 ≤ b) word
one_line-word [] visible = All-nil (λ b. 32 ≤ b)
one_line-word (b ∷ word) visible = All-cons (λ b. 32 ≤ b) b word (above_32 b visible.0) (one_line-word word visible.1)

one_line-behind : (ws : List Text) → AreWords ws → All (λ b. 32 ≤ b) (flat_map spaced_word ws)
one_line-behind [] are = All-nil (λ b. 32 ≤ b)
one_line-behind (w ∷ ws) are =
    All-append (λ b. 32 ≤ b) (32 ∷ w) (flat_map spaced_word ws)
    (All-cons (λ b. 32 ≤ b) 32 w (omega arith) (one_line-word w are.0.visible))
    (one_line-behind ws are.1)

-- nor have words with spaces between them
pub one_line-spaced : (ws : List Text) → AreWords ws → All (λ b. 32 ≤ b) (spaced ws)
one_line-spaced [] are = All-nil (λ b. 32 ≤ b)
one_line-spaced (w ∷ ws) are = All-append (λ b. 32 ≤ b) w (flat_map spaced_word ws) (one_line-word w are.0.visible) (one_line-behind ws are.1)
