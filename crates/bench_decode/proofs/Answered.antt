-- Words that are not answered as commands, and one more.
use Rattle.std.proofs.Common.{◌≡◌, ◌+◌, ◌<◌, ◌≤◌, ℕ, false, subst, ⊎_elim, arith}
use Rattle.std.proofs.lemmas.Bool.{cases_lt}
use Rattle.ch11_layout.specs.Stamps.{Recorded}
use Rattle.bench_decode.specs.Superseding.{is_answered}

pub none_more : (m : Recorded) (from place : ℕ) → ((k : ℕ) → from ≤ k → k < place → is_answered k m ≡ false) → is_answered place m ≡ false → (k : ℕ) → from ≤ k → k < place + 1 → is_answered k m ≡ false
none_more m from place none this k low high =
    ⊎_elim (λ below. none k low below) (λ behind. let is : place ≡ k = omega (arith, high, behind) in subst (λ (j : ℕ). is_answered j m ≡ false) is this) (cases_lt k place)
