-- Tokens one by one, and in front of others.
use Rattle.std.proofs.Common.{◌≡◌, ℕ, Bool, true, false, cond, List, [], ◌∷◌, ◌++◌, Result, Ok, Err, refl, ap, ◌∙◌, append_assoc}
use Rattle.std.specs.Prelude.{nat_eq, ◌&&◌}
use Rattle.std.proofs.lemmas.Bool.{eqb-true}
use Rattle.frame_text.specs.Reading.{Tokens, Failure, fails, at_first, cause_alone, same_bytes, past, misplaced, to_the_end}
use Rattle.frame_text.specs.declared.faults.Cause.{Cause}

pub both_hold : (a b : Bool) → (a && b) ≡ true → (a ≡ true) × (b ≡ true)
both_hold true b e = (refl, e)
both_hold false b e = absurd (cc)

pub same_is : (a b : List ℕ) → same_bytes a b ≡ true → a ≡ b
same_is [] [] e = refl
same_is [] (y ∷ ys) e = absurd (cc)
same_is (x ∷ xs) [] e = absurd (cc)
same_is (x ∷ xs) (y ∷ ys) e = let p = both_hold (nat_eq x y) (same_bytes xs ys) e in rw (eqb-true x y p.0, same_is xs ys p.1) refl

-- what holds of each branch holds of the choice
pub of_choice : {X : Type 0} (P : X → Type 0) (b : Bool) (x y : X) → (b ≡ true → P x) → P y → P (cond b x y)
of_choice P true x y p q = p refl
of_choice P false x y p q = q

-- what was answered without a place
abbrev pub answered : {X : Type 0} → X → Result X Cause
answered x = Ok x

pub answered_is : {X : Type 0} (x y : X) → answered x ≡ answered y → x ≡ y
answered_is x y e = cc

-- what is known of what was read
pub whole_ok : {X : Type 0} (read : Result X Failure) (x : X) → cause_alone read ≡ Ok x → read ≡ Ok x
whole_ok (Ok y) x e = let same : y ≡ x = cc in ap Ok same
whole_ok (Err f) x e = absurd (cc)

pub first_ok : {X : Type 0} (ts : Tokens) (r : Result X Cause) (x : X) → at_first ts r ≡ Ok x → r ≡ Ok x
first_ok ts (Ok y) x e = let same : y ≡ x = cc in ap Ok same
first_ok ts (Err c) x e = absurd (cc)

-- a token that stood here
pub past_ok : (token : List ℕ) (ts us : Tokens) → past token ts ≡ Ok us → ts ≡ token ∷ us
unfolding past
past_ok token [] us e = absurd (cc)
past_ok token (w ∷ ts) us e = by (same_bytes w token) refl e
  where
    by : (b : Bool) → same_bytes w token ≡ b → cond b (Ok ts) (fails (misplaced w) (w ∷ ts)) ≡ Ok us → w ∷ ts ≡ token ∷ us
    by true h i = let g : ts ≡ us = cc in rw (same_is w token h, g) refl
    by false h i = absurd (cc)

-- a reading of all tokens
pub end_ok : {X : Type 0} (x : X × Tokens) (y : X) → to_the_end x ≡ Ok y → (x.0 ≡ y) × (x.1 ≡ [])
unfolding to_the_end
end_ok (x, []) y e = (cc, refl)
end_ok (x, w ∷ ts) y e = absurd (cc)

pub three : (one other close rest : Tokens) → one ++ other ++ close ++ rest ≡ one ++ (other ++ (close ++ rest))
three one other close rest = append_assoc (one ++ other) close rest ∙ append_assoc one other (close ++ rest)

-- the first token, and those behind it
pub begun : {w first : List ℕ} {ts us : Tokens} → w ≡ first → ts ≡ us → w ∷ ts ≡ first ∷ us
begun {first = first} {ts = ts} e h = ap (λ z. z ∷ ts) e ∙ ap (λ z. first ∷ z) h

-- the same where the first tokens are known
pub behind : {ts us vs : Tokens} {w : List ℕ} → ts ≡ w ∷ us → us ≡ vs → ts ≡ w ∷ vs
behind {w = w} e h = e ∙ ap (λ z. w ∷ z) h

pub over : {ts us vs : Tokens} (ws : Tokens) → ts ≡ ws ++ us → us ≡ vs → ts ≡ ws ++ vs
over ws e h = e ∙ ap (λ z. ws ++ z) h
