-- Which requests are messages: MIL-STD-1553B 4.3.3.5.1 for the ranges, 4.3.3.6 for the forms.
use Rattle.std.specs.Prelude.{ℕ, ◌≡◌, Bool, true, false, not, ◌&&◌, ◌==◌, nat_le, List, [], ◌∷◌, length, Option, Some}
use Rattle.std.specs.Prelude.{None, Result, Ok, Err, MatchResult}
use Rattle.mil_word.specs.Fields.{highest_address, highest_subaddress, most_words}
use Rattle.mil_mode.specs.Table.{data_word_count}
use Rattle.mil_mode.specs.Codes.{last_without_word, last_code}
use Rattle.mil_message.specs.declared.faults.BadMessage.{BadMessage}
use Rattle.mil_message.specs.declared.faults.BadMessage.TheVariants.{Address, Subaddress, CountOrCode, SameEnds}
use Rattle.mil_message.specs.declared.faults.BadMessage.TheVariants.{ModeWord}
use Rattle.mil_message.specs.declared.forms.Form.{Form}
use Rattle.mil_message.specs.declared.forms.Form.TheVariants.{ToTerminal, FromTerminal, Between, Mode, ModeFrom, ModeTo}
use Rattle.mil_message.specs.declared.forms.Form.TheVariants.{ToAll, BetweenAll, ModeAll, ModeAllTo}
use Rattle.mil_message.specs.Request.{Request, to_terminal, from_terminal, between, mode, mode_from, mode_to, to_all}
use Rattle.mil_message.specs.Request.{between_all, mode_all, mode_all_to}

-- the address of one terminal; 31 is that of all (4.3.3.5.1.2)
abbrev pub is_address : ℕ → Bool
is_address n = nat_le n highest_address

-- a subaddress for data; 0 and 31 mark mode commands (4.3.3.5.1.4)
abbrev pub is_subaddress : ℕ → Bool
is_subaddress n = nat_le 1 n && nat_le n highest_subaddress

-- a count of data words (4.3.3.5.1.5)
abbrev pub is_count : ℕ → Bool
is_count n = nat_le 1 n && nat_le n most_words

-- a mode code that goes without a data word (4.3.3.6.4)
abbrev pub is_code_alone : ℕ → Bool
is_code_alone code = nat_le code last_without_word

-- a mode code with a data word that the terminal sends: T/R 1 (4.3.3.6.5)
abbrev pub is_code_from : ℕ → Bool
is_code_from code = nat_le code last_code && data_word_count true code == 1

-- a mode code with a data word that the terminal receives: T/R 0 (4.3.3.6.6)
abbrev pub is_code_to : ℕ → Bool
is_code_to code = nat_le code last_code && data_word_count false code == 1

abbrev pub is_no_word : Option (List ℕ) → Bool
is_no_word None = true
is_no_word (Some words) = false

abbrev pub is_one_word : Option (List ℕ) → Bool
is_one_word None = false
is_one_word (Some words) = length words == 1

-- what a request must meet, in the order in which it is judged, each with the fault where it does not
abbrev pub rules : Request → List (Bool × BadMessage)
rules (to_terminal address subaddress words) =
    (is_address address, Address) ∷ (is_subaddress subaddress, Subaddress) ∷ (is_count (length words), CountOrCode) ∷ []
rules (from_terminal address subaddress count) =
    (is_address address, Address) ∷ (is_subaddress subaddress, Subaddress) ∷ (is_count count, CountOrCode) ∷ []
rules (between sender sender_subaddress receiver receiver_subaddress count) =
    (is_address sender && is_address receiver, Address)
    ∷ (is_subaddress sender_subaddress && is_subaddress receiver_subaddress, Subaddress)
    ∷ (is_count count, CountOrCode)
    ∷ (not (sender == receiver), SameEnds)
    ∷ []
rules (mode address subaddress code words) =
    (is_address address, Address) ∷ (is_code_alone code, CountOrCode) ∷ (is_no_word words, ModeWord) ∷ []
rules (mode_from address subaddress code words) =
    (is_address address, Address) ∷ (is_code_from code, CountOrCode) ∷ (is_no_word words, ModeWord) ∷ []
rules (mode_to address subaddress code words) =
    (is_address address, Address) ∷ (is_code_to code, CountOrCode) ∷ (is_one_word words, ModeWord) ∷ []
rules (to_all subaddress words) =
    (is_subaddress subaddress, Subaddress) ∷ (is_count (length words), CountOrCode) ∷ []
rules (between_all sender sender_subaddress receiver_subaddress count) =
    (is_address sender, Address)
    ∷ (is_subaddress sender_subaddress && is_subaddress receiver_subaddress, Subaddress)
    ∷ (is_count count, CountOrCode)
    ∷ []
rules (mode_all subaddress code words) =
    (is_code_alone code, CountOrCode) ∷ (is_no_word words, ModeWord) ∷ []
rules (mode_all_to subaddress code words) =
    (is_code_to code, CountOrCode) ∷ (is_one_word words, ModeWord) ∷ []

-- the fault of the first rule that is not met
abbrev pub first_fault : List (Bool × BadMessage) → Option BadMessage
first_fault [] = None
first_fault ((true, fault) ∷ more) = first_fault more
first_fault ((false, fault) ∷ more) = Some fault

abbrev pub mode_word : Option (List ℕ) → ℕ
mode_word None = 0
mode_word (Some []) = 0
mode_word (Some (word ∷ words)) = word

-- the form that a request asks for
abbrev pub form_of : Request → Form
form_of (to_terminal address subaddress words) = ToTerminal address subaddress (record { items = words })
form_of (from_terminal address subaddress count) = FromTerminal address subaddress count
form_of (between sender sender_subaddress receiver receiver_subaddress count) = Between sender sender_subaddress
    receiver receiver_subaddress count
form_of (mode address subaddress code words) = Mode address subaddress code
form_of (mode_from address subaddress code words) = ModeFrom address subaddress code
form_of (mode_to address subaddress code words) = ModeTo address subaddress code (mode_word words)
form_of (to_all subaddress words) = ToAll subaddress (record { items = words })
form_of (between_all sender sender_subaddress receiver_subaddress count) = BetweenAll sender sender_subaddress
    receiver_subaddress count
form_of (mode_all subaddress code words) = ModeAll subaddress code
form_of (mode_all_to subaddress code words) = ModeAllTo subaddress code (mode_word words)

abbrev pub judged : Option BadMessage → Form → Result Form BadMessage
judged None form = Ok form
judged (Some fault) form = Err fault

-- the rule is met, and the value is as it is to be; or the rule is not met, and this is the fault
abbrev pub Meets : {X : Type 0} → Result X BadMessage → Bool → (X → Type 0) → BadMessage → Type 0
Meets result rule IsRight fault = MatchResult result (λ value. IsRight value × (rule ≡ true))
    (λ e. (e ≡ fault) × (rule ≡ false))

-- what becomes of a request: its message, or the first fault
abbrev pub checked : Request → Result Form BadMessage
checked request = judged (first_fault (rules request)) (form_of request)

-- the request that asks for a form
abbrev pub request_for : Form → Request
request_for (ToTerminal address subaddress words) = to_terminal address subaddress words.items
request_for (FromTerminal address subaddress count) = from_terminal address subaddress count
request_for (Between sender sender_subaddress receiver receiver_subaddress count) = between sender sender_subaddress
    receiver receiver_subaddress count
request_for (Mode address subaddress code) = mode address subaddress code None
request_for (ModeFrom address subaddress code) = mode_from address subaddress code None
request_for (ModeTo address subaddress code word) = mode_to address subaddress code (Some (word ∷ []))
request_for (ToAll subaddress words) = to_all subaddress words.items
request_for (BetweenAll sender sender_subaddress receiver_subaddress count) = between_all sender sender_subaddress
    receiver_subaddress count
request_for (ModeAll subaddress code) = mode_all subaddress code None
request_for (ModeAllTo subaddress code word) = mode_all_to subaddress code (Some (word ∷ []))

-- a message of one of the ten forms, all its numbers in their ranges: the request for it meets every rule
abbrev pub IsLawful : Form → Type 0
IsLawful form = first_fault (rules (request_for form)) ≡ None
