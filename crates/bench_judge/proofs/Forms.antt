-- The form that parts have.
use Rattle.std.proofs.Common.{◌≡◌, ℕ, List, refl, sym, ap, ◌∙◌, unwrap_or}
use Rattle.std.specs.Prelude.{Bool, true, false, ◌&&◌, ◌==◌, ◌↔◌, Option, Some, None, Result, Ok, Err}
use Rattle.std.specs.Str.{bytes_eq}
use Rattle.std.proofs.lemmas.Bool.{eqb-true, eq-eqb}
use Rattle.std.proofs.lemmas.Slice.Eq.{bytes_eq-Decides}
use Rattle.mil_message.specs.declared.faults.BadMessage.{BadMessage}
use Rattle.mil_message.specs.declared.forms.Form.{Form}
use Rattle.mil_message.specs.Forms.{form_number, first_command, second_command, data_words}
use Rattle.mil_message.specs.Parts.{Parts, parts_of, request_at}
use Rattle.mil_message.specs.Request.{Request}
use Rattle.mil_message.specs.Rules.{checked, IsLawful}
use Rattle.mil_message.proofs.Checked.{checked-request_for, lawful-checked}
use Rattle.mil_message.proofs.ReadBack.{read_back}
use Rattle.bench_judge.specs.Clean.{has_parts, of_these_parts, asked_for, form_with}

pub and_first : (a b : Bool) → (a && b) ≡ true → a ≡ true
and_first true b is = refl
and_first false b is = cc

pub and_second : (a b : Bool) → (a && b) ≡ true → b ≡ true
and_second true b is = is
and_second false b is = cc

has_own_parts : (f : Form) → has_parts f (parts_of f) ≡ true
has_own_parts f =
    rw (
      eq-eqb (form_number f) (form_number f) refl,
      eq-eqb (first_command f) (first_command f) refl,
      eq-eqb (unwrap_or (second_command f) 0) (unwrap_or (second_command f) 0) refl,
      (bytes_eq-Decides (data_words f) (data_words f)).1 refl,
    ) refl

same_parts : (n first second m one two : ℕ) (xs ys : List ℕ) → n ≡ m → first ≡ one → second ≡ two → xs ≡ ys
    → (let p : Parts = record { number = n; first = first; second = second; words = xs } in p) ≡ record { number = m; first = one; second = two; words = ys }
same_parts n first second m one two xs ys a b c d = cc

parts_from : (f : Form) (p : Parts) → has_parts f p ≡ true → parts_of f ≡ p
parts_from f p is =
    same_parts (form_number f) (first_command f) (unwrap_or (second_command f) 0) p.number p.first p.second (data_words f) p.words
    (eqb-true (form_number f) p.number (and_first a b two))
    (eqb-true (first_command f) p.first (and_second a b two))
    (eqb-true (unwrap_or (second_command f) 0) p.second (and_second (a && b) c three))
    ((bytes_eq-Decides (data_words f) p.words).0 (and_second ((a && b) && c) d is))
  where
    a : Bool
    a = form_number f == p.number

    b : Bool
    b = first_command f == p.first

    c : Bool
    c = unwrap_or (second_command f) 0 == p.second

    d : Bool
    d = bytes_eq (data_words f) p.words

    three : ((a && b) && c) ≡ true
    three = and_first ((a && b) && c) d is

    two : (a && b) ≡ true
    two = and_first (a && b) c three

form_with-of : (f : Form) → IsLawful f → form_with (parts_of f) ≡ Some f
unfolding form_with
form_with-of f lawful = rw (read_back f lawful, checked-request_for f lawful, has_own_parts f) refl

none_of_these : (p : Parts) (request : Request) (f : Form) (b : Bool) → checked request ≡ Ok f → has_parts f p ≡ b → ((g : Form) → IsLawful g → parts_of g ≡ p → ⊥) → of_these_parts p (Ok f) ≡ None
none_of_these p request f false is has none = rw has refl
none_of_these p request f true is has none = absurd (none f (lawful-checked request f is) (parts_from f p has))

none_checked : (p : Parts) (request : Request) (answer : Result Form BadMessage) → checked request ≡ answer → ((g : Form) → IsLawful g → parts_of g ≡ p → ⊥) → of_these_parts p answer ≡ None
none_checked p request (Err fault) is none = refl
none_checked p request (Ok f) is none = none_of_these p request f (has_parts f p) is refl none

none_asked : (p : Parts) (request : Option Request) → ((g : Form) → IsLawful g → parts_of g ≡ p → ⊥) → asked_for p request ≡ None
none_asked p None none = refl
none_asked p (Some request) none = none_checked p request (checked request) refl none

form_with-none : (p : Parts) → ((g : Form) → IsLawful g → parts_of g ≡ p → ⊥) → form_with p ≡ None
unfolding form_with
form_with-none p none = none_asked p (request_at p) none

none_is_some : (f : Form) → (let none : Option Form = None in none) ≡ Some f → ⊥
none_is_some f is = cc

-- an answer that is exactly a lawful message of these parts
pub answers : (p : Parts) (found : Option Form) → ((f : Form) → (found ≡ Some f) ↔ (IsLawful f × (parts_of f ≡ p))) → found ≡ form_with p
answers p None exact = sym (form_with-none p (λ f lawful is. none_is_some f ((exact f).1 (lawful, is))))
answers p (Some f) exact =
    let both : IsLawful f × (parts_of f ≡ p) = (exact f).0 refl in
    sym (ap form_with (sym both.1) ∙ form_with-of f both.0)
