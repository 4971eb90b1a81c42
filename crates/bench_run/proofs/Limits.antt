-- How many items all channels may send together.
use Rattle.std.proofs.Common.{ℕ, zero, suc, ◌+◌, ◌*◌, ◌≤◌, ◌^◌, List, [], ◌∷◌, length, sum, All, arith}
use Rattle.std.specs.List.{AllByRecursion}
use Rattle.std.proofs.lemmas.List.Sums.{sum_by-cons}

-- a channel sends at most 1,000,000 messages, those that up to 65,536 posts have inserted, and its end mark
abbrev pub AreLow : List ℕ → Type 0
AreLow bounds = AllByRecursion (λ b. b ≤ 1065537) bounds

pub low_posts : (posts : ℕ) (bounds : List ℕ) → posts ≤ 65536 → AllByRecursion (λ b. b ≤ 1000001 + posts) bounds → AreLow bounds
low_posts posts [] few all = tt
low_posts posts (b ∷ bounds) few all = (omega (arith, few, all.0), low_posts posts bounds few all.1)

pub each_low : (bounds : List ℕ) → AreLow bounds → All (λ b. b ≤ 2 ^ 55) bounds
each_low [] all k d lt = absurd (omega (arith, lt))
each_low (b ∷ bounds) all zero d lt = omega (arith, all.0)
each_low (b ∷ bounds) all (suc k) d lt = each_low bounds all.1 k d (omega (arith, lt))

pub sum_low : (bounds : List ℕ) → AreLow bounds → sum bounds ≤ 1065537 * length bounds
sum_low [] all = omega arith
sum_low (b ∷ bounds) all =
    let rest = sum_low bounds all.1 in
    let one = sum_by-cons (λ n. n) b bounds in
    omega (arith, rest, one, all.0)
