-- A request that is accepted is the request for its form, which is lawful.
use Rattle.std.proofs.Common.{◌≡◌, ℕ, List, [], ◌∷◌, refl, ap, sym, ◌∙◌, arith}
use Rattle.std.specs.Prelude.{Bool, true, false, Option, Some, None, Result, Ok, ◌↔◌}
use Rattle.std.proofs.lemmas.Bool.{eqb-true}
use Rattle.mil_message.specs.declared.faults.BadMessage.{BadMessage}
use Rattle.mil_message.specs.declared.faults.BadMessage.TheVariants.{Address, CountOrCode, ModeWord}
use Rattle.mil_message.specs.declared.forms.Form.{Form}
use Rattle.mil_message.specs.declared.forms.Form.TheVariants.{ToTerminal, FromTerminal, Between, Mode, ModeFrom, ModeTo, ToAll, BetweenAll, ModeAll, ModeAllTo}
use Rattle.mil_message.specs.Request.{Request, to_terminal, from_terminal, between, mode, mode_from, mode_to, to_all, between_all, mode_all, mode_all_to}
use Rattle.mil_message.specs.Rules.{rules, first_fault, form_of, judged, checked, request_for, IsLawful, is_no_word, is_one_word, mode_word, is_address, is_code_alone, is_code_from, is_code_to}

judged_ok : (fault : Option BadMessage) (form found : Form) → judged fault form ≡ Ok found → (fault ≡ None) × (form ≡ found)
judged_ok None form found is = (refl, cc)
judged_ok (Some fault) form found is = cc

-- where no fault is found, each rule is met
only_met : (a : Bool) (x : BadMessage) → first_fault ((a, x) ∷ []) ≡ None → a ≡ true
only_met true x met = refl
only_met false x met = cc

pub head_met : (a b : Bool) (x y : BadMessage) → first_fault ((a, x) ∷ (b, y) ∷ []) ≡ None → a ≡ true
head_met true b x y met = refl
head_met false b x y met = cc

pub second_met : (a b : Bool) (x y : BadMessage) → first_fault ((a, x) ∷ (b, y) ∷ []) ≡ None → b ≡ true
second_met true b x y met = only_met b y met
second_met false b x y met = cc

pub middle_met : (a b c : Bool) (x y z : BadMessage) → first_fault ((a, x) ∷ (b, y) ∷ (c, z) ∷ []) ≡ None → b ≡ true
middle_met true b c x y z met = head_met b c y z met
middle_met false b c x y z met = cc

pub third_met : (a b c : Bool) (x y z : BadMessage) → first_fault ((a, x) ∷ (b, y) ∷ (c, z) ∷ []) ≡ None → c ≡ true
third_met true b c x y z met = second_met b c y z met
third_met false b c x y z met = cc

-- the second and the third of four
pub four_met : (a b c d : Bool) (x y z w : BadMessage) → first_fault ((a, x) ∷ (b, y) ∷ (c, z) ∷ (d, w) ∷ []) ≡ None → (b ≡ true) × (c ≡ true)
four_met true true true d x y z w met = (refl, refl)
four_met true true false d x y z w met = cc
four_met true false c d x y z w met = cc
four_met false b c d x y z w met = cc

no_word_is : (words : Option (List ℕ)) → is_no_word words ≡ true → None ≡ words
no_word_is None is = refl
no_word_is (Some words) is = cc

one_word_is : (words : Option (List ℕ)) → is_one_word words ≡ true → Some (mode_word words ∷ []) ≡ words
one_word_is None is = cc
one_word_is (Some []) is = cc
one_word_is (Some (word ∷ [])) is = refl
one_word_is (Some (word ∷ other ∷ more)) is = absurd (omega (arith, eqb-true _ _ is))

-- a request that meets its rules is the one that asks for its form
same_request : (request : Request) → first_fault (rules request) ≡ None → request ≡ request_for (form_of request)
same_request (to_terminal address subaddress words) met = refl
same_request (from_terminal address subaddress count) met = refl
same_request (between sender sender_subaddress receiver receiver_subaddress count) met = refl
same_request (mode address subaddress code words) met =
    ap (mode address subaddress code) (sym (no_word_is words (third_met (is_address address) (is_code_alone code) (is_no_word words) Address CountOrCode ModeWord met)))
same_request (mode_from address subaddress code words) met =
    ap (mode_from address subaddress code) (sym (no_word_is words (third_met (is_address address) (is_code_from code) (is_no_word words) Address CountOrCode ModeWord met)))
same_request (mode_to address subaddress code words) met =
    ap (mode_to address subaddress code) (sym (one_word_is words (third_met (is_address address) (is_code_to code) (is_one_word words) Address CountOrCode ModeWord met)))
same_request (to_all subaddress words) met = refl
same_request (between_all sender sender_subaddress receiver_subaddress count) met = refl
same_request (mode_all subaddress code words) met =
    ap (mode_all subaddress code) (sym (no_word_is words (second_met (is_code_alone code) (is_no_word words) CountOrCode ModeWord met)))
same_request (mode_all_to subaddress code words) met =
    ap (mode_all_to subaddress code) (sym (one_word_is words (second_met (is_code_to code) (is_one_word words) CountOrCode ModeWord met)))

pub request_of-checked : (request : Request) (form : Form) → checked request ≡ Ok form → request ≡ request_for form
request_of-checked request form is =
    let both = judged_ok (first_fault (rules request)) (form_of request) form is in
    same_request request both.0 ∙ ap request_for both.1

pub lawful-checked : (request : Request) (form : Form) → checked request ≡ Ok form → IsLawful form
lawful-checked request form is =
    let both = judged_ok (first_fault (rules request)) (form_of request) form is in
    let same = request_of-checked request form is in
    ap (λ r. first_fault (rules r)) (sym same) ∙ both.0

form_of-request_for : (form : Form) → form_of (request_for form) ≡ form
form_of-request_for (ToTerminal address subaddress words) = refl
form_of-request_for (FromTerminal address subaddress count) = refl
form_of-request_for (Between sender sender_subaddress receiver receiver_subaddress count) = refl
form_of-request_for (Mode address subaddress code) = refl
form_of-request_for (ModeFrom address subaddress code) = refl
form_of-request_for (ModeTo address subaddress code word) = refl
form_of-request_for (ToAll subaddress words) = refl
form_of-request_for (BetweenAll sender sender_subaddress receiver_subaddress count) = refl
form_of-request_for (ModeAll subaddress code) = refl
form_of-request_for (ModeAllTo subaddress code word) = refl

-- the request for a lawful form is accepted
pub checked-request_for : (form : Form) → IsLawful form → checked (request_for form) ≡ Ok form
checked-request_for form lawful = rw (lawful, form_of-request_for form) refl

pub accepts : (request : Request) (found : Result Form BadMessage) (form : Form) → found ≡ checked request → (found ≡ Ok form) ↔ (IsLawful form × (request ≡ request_for form))
accepts request found form is = (
  λ e. (lawful-checked request form (sym is ∙ e), request_of-checked request form (sym is ∙ e)),
  λ both. is ∙ ap checked both.1 ∙ checked-request_for form both.0,
)
