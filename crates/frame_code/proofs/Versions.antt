-- The version that operations need.
use Rattle.std.proofs.Common.{◌≡◌, ℕ, ◌+◌, ◌-◌, ◌<◌, ◌≤◌, max, List, [], ◌∷◌, ◌++◌, Result, Ok, Err, refl, ap, ◌∙◌, arith}
use Rattle.std.specs.Prelude.{true, nat_lt}
use Rattle.std.proofs.lemmas.Bool.Decides.{nat_tests}
use Rattle.frame_code.specs.declared.error.ImageError.{ImageError}
use Rattle.frame_code.specs.declared.Op.{Op}
use Rattle.frame_code.specs.declared.Op.TheVariants.{Halt, Send, Alt, SetGap, Loop, Again, Leave, Jump, Test, JumpFalse, Call, Return, Begin, Pace}
use Rattle.frame_code.specs.Bytes.{version_of, version_for, operation_number}
use Rattle.frame_code.specs.Reading.{◌>>=◌, FieldRead, known, many, many_versions, operation_at}
use Rattle.frame_code.proofs.Many.{left, many_none, many_with, many_fails}

-- the version that an operation needs is one of the three, and knows it
record HasVersion (o : Op) : Type 0 where
  least : 1 ≤ version_of o
  most : version_of o ≤ 3
  number : operation_number o < known (version_of o)

version_is : (o : Op) → HasVersion o
version_is Halt = record { least = omega arith; most = omega arith; number = omega arith }
version_is (Send m) = record { least = omega arith; most = omega arith; number = omega arith }
version_is (Alt m) = record { least = omega arith; most = omega arith; number = omega arith }
version_is (SetGap t) = record { least = omega arith; most = omega arith; number = omega arith }
version_is (Loop n) = record { least = omega arith; most = omega arith; number = omega arith }
version_is (Again i) = record { least = omega arith; most = omega arith; number = omega arith }
version_is (Leave i) = record { least = omega arith; most = omega arith; number = omega arith }
version_is (Jump i) = record { least = omega arith; most = omega arith; number = omega arith }
version_is (Test k) = record { least = omega arith; most = omega arith; number = omega arith }
version_is (JumpFalse i) = record { least = omega arith; most = omega arith; number = omega arith }
version_is (Call r) = record { least = omega arith; most = omega arith; number = omega arith }
version_is Return = record { least = omega arith; most = omega arith; number = omega arith }
version_is Begin = record { least = omega arith; most = omega arith; number = omega arith }
version_is (Pace h) = record { least = omega arith; most = omega arith; number = omega arith }

-- a higher version knows what a lower one knows
known_rises : (a b : ℕ) → 1 ≤ a → a ≤ b → known a ≤ known b
known_rises a b low h = grind (arith, nat_tests)

lt_true : (a b : ℕ) → a < b → nat_lt a b ≡ true
lt_true a b h = grind (arith, nat_tests)

pub number_small : (v : ℕ) (o : Op) → version_of o ≤ v → nat_lt (operation_number o) (known v) ≡ true
number_small v o h =
    let is = version_is o in
    let rises = known_rises (version_of o) v is.least h in
    let number = is.number in
    lt_true (operation_number o) (known v) (omega arith)

pub some_version : (os : List Op) → 1 ≤ version_for os
some_version [] = omega arith
some_version (o ∷ os) = let h = some_version os in omega arith

pub few_versions : (os : List Op) → version_for os ≤ 3
few_versions [] = omega arith
few_versions (o ∷ os) =
    let one = (version_is o).most in
    let rest = few_versions os in
    omega arith

-- the version that is needed so far, and by the operations that are read
abbrev pub at_least : ℕ → Result (ℕ × List ℕ) ImageError → Result (ℕ × List ℕ) ImageError
at_least v (Ok x) = Ok (max v x.0, x.1)
at_least v (Err e) = Err e

pub at_least_one : (r : FieldRead (List Op)) → many_versions r ≡ at_least 1 (many_versions r)
at_least_one (Ok x) = let h = some_version x.0 in let same : version_for x.0 ≡ max 1 (version_for x.0) = omega arith in ap (λ k. Ok (k, x.1)) same
at_least_one (Err e) = refl

at_least_with : (v : ℕ) (o : Op) (r : FieldRead (List Op)) → at_least v (many_versions (r >>= (λ ys. Ok (o ∷ ys.0, ys.1)))) ≡ at_least (max (version_of o) v) (many_versions r)
at_least_with v o (Ok y) =
    let same : max v (max (version_of o) (version_for y.0)) ≡ max (max (version_of o) v) (version_for y.0) = omega arith in
    ap (λ k. Ok (k, y.1)) same
at_least_with v o (Err e) = refl

module _ (version : ℕ) where
  pub versions_more : (v : ℕ) (n i : ℕ) (bs next : List ℕ) (o : Op) → i < n → operation_at version bs ≡ Ok (o, next)
      → at_least v (many_versions (many (operation_at version) (n - i) bs)) ≡ at_least (max (version_of o) v) (many_versions (many (operation_at version) (n - (i + 1)) next))
  versions_more v n i bs next o h e =
      ap (λ k. at_least v (many_versions (many (operation_at version) k bs))) (left (operation_at version) n i h)
      ∙ ap (λ r. at_least v (many_versions r)) (many_with (operation_at version) (n - (i + 1)) bs next o e)
      ∙ at_least_with v o (many (operation_at version) (n - (i + 1)) next)

  pub versions_fail : (v : ℕ) (n i : ℕ) (bs : List ℕ) (e : ImageError) → i < n → operation_at version bs ≡ Err e → at_least v (many_versions (many (operation_at version) (n - i) bs)) ≡ Err e
  versions_fail v n i bs e h is =
      ap (λ k. at_least v (many_versions (many (operation_at version) k bs))) (left (operation_at version) n i h)
      ∙ ap (λ r. at_least v (many_versions r)) (many_fails (operation_at version) (n - (i + 1)) bs e is)

  pub versions_end : (v : ℕ) (n i : ℕ) (bs : List ℕ) → 1 ≤ v → n ≤ i → at_least v (many_versions (many (operation_at version) (n - i) bs)) ≡ Ok (v, bs)
  versions_end v n i bs some h =
      let none : n - i ≡ 0 = omega arith in
      let same : max v 1 ≡ v = omega arith in
      ap (λ k. at_least v (many_versions (many (operation_at version) k bs))) none ∙ ap (λ r. at_least v (many_versions r)) (many_none (operation_at version) bs) ∙ ap (λ z. Ok (z, bs)) same

-- what was read, where it is known what is behind it and which version it needs
got : Result (ℕ × List ℕ) ImageError → ℕ × List ℕ
got (Ok x) = x
got (Err e) = (0, [])

pub versions_ok : (r : FieldRead (List Op)) (v : ℕ) (rest : List ℕ) → many_versions r ≡ Ok (v, rest) → (os : List Op) × (r ≡ Ok (os, rest)) × (version_for os ≡ v)
unfolding got
versions_ok (Ok x) v rest e = (x.0, ap (λ z. Ok (x.0, z)) (ap (λ r. (got r).1) e), ap (λ r. (got r).0) e)
versions_ok (Err y) v rest e = absurd (cc)

pub known_more : (v : ℕ) (os : List Op) (o : Op) → version_for os ≤ v → version_of o ≤ v → version_for (os ++ o ∷ []) ≤ v
known_more v [] o h k = omega arith
known_more v (x ∷ os) o h k =
    let rest = known_more v os o (omega arith) k in
    omega arith
