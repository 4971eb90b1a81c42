-- What is read of words, in parts.
use Rattle.std.proofs.Common.{◌≡◌, List, [], ◌∷◌, refl, ap, ◌∙◌, subst}
use Rattle.std.specs.Prelude.{Ok, Err, IfOk, ℤ}
use Rattle.text_lines.specs.Words.{Text}
use Rattle.judge_rules.specs.Faults.{Read, both, ended, made}
use Rattle.judge_rules.proofs.Ranges.{if_both}
use Rattle.signal_values.specs.Amounts.{number_of}
use Rattle.signal_values.specs.declared.exact.Amount.{Amount}

pub ended_made : {A B : Type 0} (make : A → B) (read : Read A) (rest : List Text) → made make (ended read rest) ≡ ended (made make read) rest
ended_made make read [] = refl
ended_made make read (word ∷ rest) = refl

-- parts of two
pub both_made : {A B C D : Type 0} (f : A → C) (g : B → D) (a : Read A) (b : Read B) → made (λ (x : A × B). (f x.0, g x.1)) (both a b) ≡ both (made f a) (made g b)
both_made f g (Ok a) (Ok b) = refl
both_made f g (Ok a) (Err e) = refl
both_made f g (Err e) (Ok b) = refl
both_made f g (Err d) (Err e) = refl

pub second_made : {A B D : Type 0} (g : B → D) (a : Read A) (b : Read B) → made (λ (x : A × B). (x.0, g x.1)) (both a b) ≡ both a (made g b)
second_made g (Ok a) (Ok b) = refl
second_made g (Ok a) (Err e) = refl
second_made g (Err e) (Ok b) = refl
second_made g (Err d) (Err e) = refl

abbrev pub numbers_of : Amount × Amount → ℤ × ℤ
numbers_of x = (number_of x.0, number_of x.1)

pub numbers_both : (a b : Read Amount) (m n : Read ℤ) → made number_of a ≡ m → made number_of b ≡ n → made numbers_of (both a b) ≡ both m n
numbers_both a b m n is_m is_n = both_made number_of number_of a b ∙ ap (λ (x : Read ℤ). both x (made number_of b)) is_m ∙ ap (λ (y : Read ℤ). both m y) is_n

-- what holds of the parts of two that were read
pub of_both : {A B : Type 0} (P : A → Type 0) (Q : B → Type 0) (a : Read A) (b : Read B) (x : A) (y : B) → both a b ≡ Ok (x, y) → IfOk a P → IfOk b Q → P x × Q y
of_both {A} {B} P Q a b x y is p q = subst (λ (r : Read (A × B)). IfOk r (λ (z : A × B). P z.0 × Q z.1)) is (if_both P Q a b p q)

-- the second of two
pub if_second : {A B : Type 0} (Q : B → Type 0) (a : Read A) (b : Read B) → IfOk b Q → IfOk (both a b) (λ (z : A × B). Q z.1)
if_second Q (Ok a) (Ok b) q = q
if_second Q (Ok a) (Err e) q = tt
if_second Q (Err e) (Ok b) q = tt
if_second Q (Err d) (Err e) q = tt

-- what stands in front of a signal
pub if_place : {A B C : Type 0} (P : A → Type 0) (Q : C → Type 0) (channel : Read A) (bus : Read B) (span : Read C) → IfOk channel P → IfOk span Q → IfOk (both (both channel bus) span) (λ (x : (A × B) × C). P x.0.0 × Q x.1)
if_place P Q (Ok c) (Ok b) (Ok s) p q = (p, q)
if_place P Q (Ok c) (Ok b) (Err f) p q = tt
if_place P Q (Ok c) (Err f) (Ok s) p q = tt
if_place P Q (Ok c) (Err f) (Err g) p q = tt
if_place P Q (Err f) (Ok b) (Ok s) p q = tt
if_place P Q (Err f) (Ok b) (Err g) p q = tt
if_place P Q (Err f) (Err g) (Ok s) p q = tt
if_place P Q (Err f) (Err g) (Err h) p q = tt
