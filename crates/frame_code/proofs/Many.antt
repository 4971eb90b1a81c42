-- Reading so many of something, one after the other.
use Rattle.std.proofs.Common.{◌≡◌, ℕ, suc, ◌+◌, ◌-◌, ◌<◌, ◌≤◌, List, [], ◌∷◌, ◌++◌, Result, Ok, Err, refl, sym, ap, ◌∙◌, arith, append_assoc}
use Rattle.std.proofs.lemmas.List.{append-nil}
use Rattle.frame_code.specs.declared.error.ImageError.{ImageError}
use Rattle.frame_code.specs.declared.error.ImageError.TheVariants as fault
use Rattle.std.specs.Prelude.{IsTrue}
use Rattle.mil_word.specs.declared.Line.{Line}
use Rattle.mil_message.specs.declared.messages.Message.{Message}
use Rattle.mil_message.specs.Rules.{IsLawful}
use Rattle.frame_code.specs.Bytes.{AreLawful}
use Rattle.std.specs.List.{flat_map}
use Rattle.frame_code.specs.declared.Op.{Op}
use Rattle.frame_code.specs.Ranges.{in_range, AreInRange}
use Rattle.frame_code.specs.Reading.{◌>>=◌, FieldRead, many, behind, Faults}

-- what is read comes behind this list
abbrev pub onto : {X : Type 0} → List X → FieldRead (List X) → FieldRead (List X)
onto xs (Ok y) = Ok (xs ++ y.0, y.1)
onto xs (Err e) = Err e

pub faults : {Y : Type 0} (e : ImageError) (read : Result Y ImageError) → read ≡ Err e → Faults e read
faults fault.Mark read is = is
faults fault.Length read is = is
faults fault.Operations read is = is
faults fault.Messages read is = is
faults fault.Version read is = is
faults fault.Memory read is = tt

pub range_more : (os : List Op) (o : Op) → AreInRange os → IsTrue (in_range o) → AreInRange (os ++ o ∷ [])
range_more [] o h k = (k, tt)
range_more (x ∷ os) o h k = (h.0, range_more os o h.1 k)

pub lawful_more : (ms : List (Line × Message)) (m : Line × Message) → AreLawful ms → IsLawful m.1 → AreLawful (ms ++ m ∷ [])
lawful_more [] m h k = (k, tt)
lawful_more (x ∷ ms) m h k = (h.0, lawful_more ms m h.1 k)

pub spelled_more : {X : Type 0} (f : X → List ℕ) (xs : List X) (x : X) (rest : List ℕ) → flat_map f xs ++ (f x ++ rest) ≡ flat_map f (xs ++ x ∷ []) ++ rest
spelled_more f [] x rest = sym (append_assoc (f x) [] rest)
spelled_more f (y ∷ xs) x rest = append_assoc (f y) (flat_map f xs) (f x ++ rest) ∙ ap (λ z. f y ++ z) (spelled_more f xs x rest) ∙ sym (append_assoc (f y) (flat_map f (xs ++ x ∷ [])) rest)

-- what was read, where what is behind it is known
pub behind_ok : {X : Type 0} (r : FieldRead X) (rest : List ℕ) → behind r ≡ Ok rest → (x : X) × (r ≡ Ok (x, rest))
behind_ok (Ok x) rest e = let same : x.1 ≡ rest = cc in (x.0, ap (λ z. Ok (x.0, z)) same)
behind_ok (Err y) rest e = absurd (cc)

module _ {X : Type 0} (one : List ℕ → FieldRead X) where
  pub many_none : (bs : List ℕ) → many one 0 bs ≡ Ok ([], bs)
  unfolding many
  many_none bs = refl

  pub many_more : (n : ℕ) (bs : List ℕ) → many one (suc n) bs ≡ (one bs >>= (λ x. many one n x.1 >>= (λ xs. Ok (x.0 ∷ xs.0, xs.1))))
  unfolding many
  many_more n bs = refl

  -- one more of them
  pub many_with : (n : ℕ) (bs next : List ℕ) (x : X) → one bs ≡ Ok (x, next) → many one (suc n) bs ≡ (many one n next >>= (λ xs. Ok (x ∷ xs.0, xs.1)))
  many_with n bs next x e = many_more n bs ∙ ap (λ r. r >>= (λ x. many one n x.1 >>= (λ xs. Ok (x.0 ∷ xs.0, xs.1)))) e

  pub many_fails : (n : ℕ) (bs : List ℕ) (e : ImageError) → one bs ≡ Err e → many one (suc n) bs ≡ Err e
  many_fails n bs e is = many_more n bs ∙ ap (λ r. r >>= (λ x. many one n x.1 >>= (λ xs. Ok (x.0 ∷ xs.0, xs.1)))) is

  pub many_cons : (n : ℕ) (bs next rest : List ℕ) (x : X) (xs : List X) → one bs ≡ Ok (x, next) → many one n next ≡ Ok (xs, rest) → many one (suc n) bs ≡ Ok (x ∷ xs, rest)
  many_cons n bs next rest x xs e f = many_with n bs next x e ∙ ap (λ r. r >>= (λ ys. Ok (x ∷ ys.0, ys.1))) f

  pub left : (n i : ℕ) → i < n → n - i ≡ suc (n - (i + 1))
  left n i h = omega arith

  onto_with : (xs : List X) (x : X) (r : FieldRead (List X)) → onto xs (r >>= (λ ys. Ok (x ∷ ys.0, ys.1))) ≡ onto (xs ++ x ∷ []) r
  onto_with xs x (Ok y) = ap (λ z. Ok (z, y.1)) (sym (append_assoc xs (x ∷ []) y.0))
  onto_with xs x (Err e) = refl

  behind_with : (x : X) (r : FieldRead (List X)) → behind (r >>= (λ ys. Ok (x ∷ ys.0, ys.1))) ≡ behind r
  behind_with x (Ok y) = refl
  behind_with x (Err e) = refl

  pub onto_more : (xs : List X) (n i : ℕ) (bs next : List ℕ) (x : X) → i < n → one bs ≡ Ok (x, next) → onto xs (many one (n - i) bs) ≡ onto (xs ++ x ∷ []) (many one (n - (i + 1)) next)
  onto_more xs n i bs next x h e =
      ap (λ k. onto xs (many one k bs)) (left n i h) ∙ ap (onto xs) (many_with (n - (i + 1)) bs next x e) ∙ onto_with xs x (many one (n - (i + 1)) next)

  pub onto_fails : (xs : List X) (n i : ℕ) (bs : List ℕ) (e : ImageError) → i < n → one bs ≡ Err e → onto xs (many one (n - i) bs) ≡ Err e
  onto_fails xs n i bs e h is = ap (λ k. onto xs (many one k bs)) (left n i h) ∙ ap (onto xs) (many_fails (n - (i + 1)) bs e is)

  pub onto_end : (xs : List X) (n i : ℕ) (bs : List ℕ) → n ≤ i → onto xs (many one (n - i) bs) ≡ Ok (xs, bs)
  onto_end xs n i bs h = let none : n - i ≡ 0 = omega arith in ap (λ k. onto xs (many one k bs)) none ∙ ap (onto xs) (many_none bs) ∙ ap (λ z. Ok (z, bs)) (simp append-nil)

  pub behind_more : (n i : ℕ) (bs next : List ℕ) (x : X) → i < n → one bs ≡ Ok (x, next) → behind (many one (n - i) bs) ≡ behind (many one (n - (i + 1)) next)
  behind_more n i bs next x h e =
      ap (λ k. behind (many one k bs)) (left n i h) ∙ ap behind (many_with (n - (i + 1)) bs next x e) ∙ behind_with x (many one (n - (i + 1)) next)

  pub behind_fails : (n i : ℕ) (bs : List ℕ) (e : ImageError) → i < n → one bs ≡ Err e → behind (many one (n - i) bs) ≡ Err e
  behind_fails n i bs e h is = ap (λ k. behind (many one k bs)) (left n i h) ∙ ap behind (many_fails (n - (i + 1)) bs e is)

  pub behind_end : (n i : ℕ) (bs : List ℕ) → n ≤ i → behind (many one (n - i) bs) ≡ Ok bs
  behind_end n i bs h = let none : n - i ≡ 0 = omega arith in ap (λ k. behind (many one k bs)) none ∙ ap behind (many_none bs)
