-- One more message counted.
use Rattle.std.proofs.Common.{◌≡◌, inl, inr, ℕ, ◌+◌, ◌<◌, ◌≤◌, ◌==◌, Bool, true, false, if◌then◌else◌, List, [], ◌∷◌, length, set, get_or, refl, sym, ap, ◌∙◌, arith}
use Rattle.std.proofs.lemmas.Grind.{get_or_default_zero}
use Rattle.std.proofs.lemmas.Bool.{cases_eq, eq-eqb, ne_eqb}
use Rattle.std.proofs.lemmas.List.{length-set, get_or-set_same, get_or-set_other}
use Rattle.ch11_reader.specs.Contents.{count_in}
use Rattle.bench_decode.specs.Numbering.{AreCounts}

one_at_most : (b : Bool) → (if b then 1 else 0) ≤ 1
one_at_most true = omega arith
one_at_most false = omega arith

-- no channel has more messages than there are
pub at_most : (channel : ℕ) (passed : List ℕ) → count_in channel passed ≤ length passed
at_most channel [] = omega arith
at_most channel (c ∷ cs) = omega (arith, one_at_most (c == channel), at_most channel cs)

own_more : (channel : ℕ) (passed : List ℕ) → count_in channel (channel ∷ passed) ≡ 1 + count_in channel passed
own_more channel passed = rw (eq-eqb channel channel refl) refl

other_same : (k channel : ℕ) (passed : List ℕ) → (channel == k) ≡ false → count_in k (channel ∷ passed) ≡ count_in k passed
other_same k channel passed other = rw other (omega arith)

-- the counts with one more message of a channel
pub counts_more : (passed xs : List ℕ) (channel n : ℕ) → channel < 65536 → AreCounts passed xs → n ≡ 1 + count_in channel passed → AreCounts (channel ∷ passed) (set xs channel n)
counts_more passed xs channel n within counts is = record {
  many = length-set xs channel n ∙ counts.many;
  each = each;
}
  where
    each : (k : ℕ) → k < 65536 → get_or (set xs channel n) k 0 ≡ count_in k (channel ∷ passed)
    each k below = elim (cases_eq k channel) [
      | inl e ↦
          ap (λ (j : ℕ). get_or (set xs channel n) j 0) e ∙ get_or-set_same xs channel n 0 (omega (arith, within, counts.many)) ∙ is
          ∙ sym (own_more channel passed) ∙ ap (λ (j : ℕ). count_in j (channel ∷ passed)) (sym e)
      | inr n' ↦ get_or-set_other xs channel k n 0 n' ∙ counts.each k below ∙ sym (other_same k channel passed (ne_eqb channel k (λ e. n' (sym e))))
    ]

-- the same at a place that is the channel
pub counts_at : (passed xs : List ℕ) (channel place n : ℕ) → place ≡ channel → channel < 65536 → AreCounts passed xs → n ≡ 1 + count_in channel passed → AreCounts (channel ∷ passed) (set xs place n)
counts_at passed xs channel place n e within counts is =
    let more = counts_more passed xs channel n within counts is in
    record {
      many = length-set xs place n ∙ counts.many;
      each = λ k below. ap (λ (j : ℕ). get_or (set xs j n) k 0) e ∙ more.each k below;
    }

-- the count that stands at the place of a channel
pub count_at : (passed xs : List ℕ) (channel place x : ℕ) → place ≡ channel → channel < 65536 → AreCounts passed xs → x ≡ get_or xs place x → x ≡ count_in channel passed
count_at passed xs channel place x e within counts is =
    is ∙ get_or_default_zero xs place x (omega (arith, e, within, counts.many)) ∙ ap (λ (j : ℕ). get_or xs j 0) e ∙ counts.each channel within
