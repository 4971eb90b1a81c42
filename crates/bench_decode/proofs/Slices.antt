-- Parts of a slice.
use Rattle.std.proofs.Common.{◌≡◌, ℕ, ◌+◌, ◌-◌, ◌≤◌, ◌<◌, min, true, false, List, [], length, take, drop, sym, ap, ◌∙◌, inl, inr, arith}
use Rattle.std.specs.Prelude.{nat_lt}
use Rattle.std.proofs.lemmas.Bool.{cases_lt, lt-ltb, le-ltb}
use Rattle.std.proofs.lemmas.List.{drop_all, length-take, take_all}
use Rattle.std.proofs.lemmas.Slice.{between_is}

-- a part of which no more is asked for than there is
pub clipped-is : (words : List ℕ) (from to begin end : ℕ) → end ≡ min to (length words) → begin ≡ min from end → take (end - begin) (drop begin words) ≡ drop from (take to words)
clipped-is words from to begin end ends begins = between_is words begin end ∙ ap (λ (l : List ℕ). drop begin l) front ∙ back
  where
    front : take end words ≡ take to words
    front = elim (cases_lt to (length words)) [
      | inl less ↦ let e : end ≡ to = omega arith in ap (λ (n : ℕ). take n words) e
      | inr more ↦ take_all end words (omega arith) ∙ sym (take_all to words more)
    ]

    many : length (take to words) ≡ end
    many = omega (arith, length-take to words)

    back : drop begin (take to words) ≡ drop from (take to words)
    back = elim (cases_lt from end) [
      | inl less ↦ let e : begin ≡ from = omega arith in ap (λ (n : ℕ). drop n (take to words)) e
      | inr more ↦ drop_all begin (take to words) (omega (arith, many)) ∙ sym (drop_all from (take to words) (omega (arith, many)))
    ]

pub same-lt : (a b c d : ℕ) → (a < b → c < d) → (c < d → a < b) → nat_lt a b ≡ nat_lt c d
same-lt a b c d there back = elim (cases_lt a b) [
  | inl less ↦ lt-ltb a b less ∙ sym (lt-ltb c d (there less))
  | inr more ↦ le-ltb a b more ∙ sym (elim (cases_lt c d) [ inl less ↦ absurd (omega (arith, back less)) | inr other ↦ le-ltb c d other ])
]
