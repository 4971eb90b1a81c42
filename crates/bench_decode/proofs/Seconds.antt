-- The first place of a range that a test holds of.
use Rattle.std.proofs.Common.{◌≡◌, ℕ, zero, suc, ◌+◌, ◌<◌, ◌≤◌, Bool, true, false, cond, Option, Some, None, refl, sym, ap, ◌∙◌, inl, inr, arith}
use Rattle.std.specs.Prelude.{find, IfSome, MatchOption}
use Rattle.std.specs.List.{range_with_len}
use Rattle.std.proofs.lemmas.Bool.{cases_lt}
use Rattle.ch11_layout.specs.Stamps.{Recorded}
use Rattle.bench_decode.specs.Superseding.{IsAnsweredNowhere, IsFirstAnswered, is_answered}

find-some : (t : ℕ → Bool) (count from place : ℕ) → from ≤ place → place < from + count → t place ≡ true → ((e : ℕ) → from ≤ e → e < place → t e ≡ false) → find t (range_with_len from count) ≡ Some place
find-some t zero from place lo hi holds first = absurd (omega arith)
find-some t (suc count) from place lo hi holds first = elim (cases_lt from place) [
  | inl less ↦
      ap (λ (b : Bool). cond b (Some from) (find t (range_with_len (from + 1) count))) (first from (omega arith) less)
      ∙ find-some t count (from + 1) place (omega arith) (omega arith) holds (λ e l h. first e (omega arith) h)
  | inr more ↦
      let same : from ≡ place = omega arith in
      ap (λ (b : Bool). cond b (Some from) (find t (range_with_len (from + 1) count))) (ap t same ∙ holds) ∙ ap Some same
]

find-none : (t : ℕ → Bool) (count from : ℕ) → ((e : ℕ) → from ≤ e → e < from + count → t e ≡ false) → find t (range_with_len from count) ≡ None
find-none t zero from none = refl
find-none t (suc count) from none =
    ap (λ (b : Bool). cond b (Some from) (find t (range_with_len (from + 1) count))) (none from (omega arith) (omega arith))
    ∙ find-none t count (from + 1) (λ e l h. none e (omega arith) (omega arith))

pub found_is : (m : Recorded) (from count to : ℕ) (o : Option ℕ) → to ≡ from + count → MatchOption o (IsAnsweredNowhere from to m) (λ place. IsFirstAnswered from to m place) → o ≡ find (λ place. is_answered place m) (range_with_len from (count + 1))
found_is m from count to None is none = sym (find-none (λ place. is_answered place m) (count + 1) from (λ e l h. none e l (omega arith)))
found_is m from count to (Some place) is some = sym (find-some (λ place. is_answered place m) (count + 1) from place some.low (omega (arith, some.high)) some.answered (λ e l h. some.first e l h))

-- and it is not far
pub near_is : (m : Recorded) (from to : ℕ) (o : Option ℕ) → MatchOption o (IsAnsweredNowhere from to m) (λ place. IsFirstAnswered from to m place) → to ≤ 900 → IfSome o (λ place. place ≤ 900)
near_is m from to None is few = tt
near_is m from to (Some place) is few = omega (arith, is.high, few)
