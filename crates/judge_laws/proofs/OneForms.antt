-- The forms with one command that one reply is due to.
use Rattle.std.proofs.Common.{◌≡◌, ℕ, ◌≤◌, ◌==◌, Bool, true, false, ◌&&◌, ◌||◌, [], ◌∷◌, length, refl, sym, ap, ◌∙◌, arith, None, Some}
use Rattle.std.specs.Prelude.{nat_le}
use Rattle.std.proofs.lemmas.Bool.{leb-true, and_parts}
use Rattle.mil_word.specs.declared.Line.{Line}
use Rattle.mil_word.specs.Fields.{code_of}
use Rattle.mil_mode.specs.Table.{is_known, data_word_count}
use Rattle.mil_message.specs.declared.faults.BadMessage.{BadMessage}
use Rattle.mil_message.specs.declared.faults.BadMessage.TheVariants.{Address, Subaddress, CountOrCode, ModeWord}
use Rattle.mil_message.specs.declared.forms.Due.{Due}
use Rattle.mil_message.specs.declared.forms.Form.{Form}
use Rattle.mil_message.specs.declared.forms.Form.TheVariants.{ToTerminal, FromTerminal, Between, Mode, ModeFrom, ModeTo, ToAll, BetweenAll, ModeAll, ModeAllTo}
use Rattle.mil_message.specs.Forms.{first_command, second_command, replies_due, mode_subaddress, mode_command, receive_command, transmit_command, count_field}
use Rattle.mil_message.specs.Rules.{first_fault, is_address, is_subaddress, is_count, is_code_alone, is_code_from, is_code_to, is_no_word, is_one_word}
use Rattle.mil_message.proofs.Checked.{middle_met, third_met}
use Rattle.mil_message.proofs.ReadBack.{address_of-command_word, code_of-command_word, count_of-command_word}
use Rattle.mil_terminal.specs.Station.{Station}
use Rattle.mil_terminal.specs.Verdicts.{is_unknown}
use Rattle.mil_bus.specs.Actions.{station_of}
use Rattle.mil_bus.specs.Exchange.{BusState}
use Rattle.judge_laws.specs.Messages.{AreReady, IsMessage, IsLegal, CanReply, IsAnswered}
use Rattle.judge_laws.proofs.AllForms.{command-fits, subaddress-fits, field-fits}
use Rattle.judge_laws.proofs.Fields.{transmit-of, not-mode, is-mode, due-received, due-none, due-one, sent-none, sent-words, sent-no_word, sent-one_word, from-codes, to-codes, legal-known}
use Rattle.judge_laws.proofs.OneReply.{one-reply}

pub in-range : (low n high : ℕ) → (nat_le low n && nat_le n high) ≡ true → (low ≤ n) × (n ≤ high)
in-range low n high is =
    let parts = and_parts (nat_le low n) (nat_le n high) is in
    (leb-true low n parts.0, leb-true n high parts.1)

pub or-none : (a : Bool) → (a || false) ≡ false → a ≡ false
or-none true is = is
or-none false is = refl

pub due-is : (a b : Due) → a ∷ [] ≡ b ∷ [] → a ≡ b
due-is a b is = cc

pub head_three : (a b c : Bool) (x y z : BadMessage) → first_fault ((a, x) ∷ (b, y) ∷ (c, z) ∷ []) ≡ None → a ≡ true
head_three true b c x y z met = refl
head_three false b c x y z met = cc

pub one_replies : (b : BusState) (line : Line) (form : Form) (gap : ℕ) (due : Due) (s : Station) → AreReady b.stations → IsMessage form → IsLegal form
    → replies_due form ≡ due ∷ [] → second_command form ≡ None → station_of due.address b.stations ≡ Some s → CanReply line (first_command form) s
    → IsAnswered b line form gap due
one_replies b line (ToTerminal address subaddress words) gap due s ready is legal dues alone found can =
    let n = length words.items in
    let own = leb-true address 30 (head_three (is_address address) (is_subaddress subaddress) (is_count n) Address Subaddress CountOrCode is.lawful) in
    let sub = in-range 1 subaddress 30 (middle_met (is_address address) (is_subaddress subaddress) (is_count n) Address Subaddress CountOrCode is.lawful) in
    let count = in-range 1 n 32 (third_met (is_address address) (is_subaddress subaddress) (is_count n) Address Subaddress CountOrCode is.lawful) in
    let low : subaddress ≤ 31 = omega (arith, sub.1) in
    let d = due-is (record { address = address; words = 0 }) due dues in
    let at : address ≡ due.address = ap (λ (x : Due). x.address) d in
    let none : 0 ≡ due.words = ap (λ (x : Due). x.words) d in
    let c = receive_command address subaddress n in
    let f = field-fits n in
    let m = not-mode address false subaddress (count_field n) sub.0 sub.1 f in
    let t = transmit-of address false subaddress (count_field n) low f in
    one-reply b line (ToTerminal address subaddress words) gap c words.items due s refl (command-fits address false subaddress (count_field n) (omega (arith, own)) low f) is.words
    (address_of-command_word address false subaddress (count_field n) low f ∙ at) (omega (arith, own, at))
    (due-received c m t ∙ count_of-command_word address false subaddress n count.0 count.1) (omega (arith, count.1, none)) ready found can
    (λ h free. sent-none s.own c h t ∙ none)
one_replies b line (FromTerminal address subaddress count) gap due s ready is legal dues alone found can =
    let own = leb-true address 30 (head_three (is_address address) (is_subaddress subaddress) (is_count count) Address Subaddress CountOrCode is.lawful) in
    let sub = in-range 1 subaddress 30 (middle_met (is_address address) (is_subaddress subaddress) (is_count count) Address Subaddress CountOrCode is.lawful) in
    let many = in-range 1 count 32 (third_met (is_address address) (is_subaddress subaddress) (is_count count) Address Subaddress CountOrCode is.lawful) in
    let low : subaddress ≤ 31 = omega (arith, sub.1) in
    let d = due-is (record { address = address; words = count }) due dues in
    let at : address ≡ due.address = ap (λ (x : Due). x.address) d in
    let due_is : count ≡ due.words = ap (λ (x : Due). x.words) d in
    let c = transmit_command address subaddress count in
    let f = field-fits count in
    let m = not-mode address true subaddress (count_field count) sub.0 sub.1 f in
    let t = transmit-of address true subaddress (count_field count) low f in
    one-reply b line (FromTerminal address subaddress count) gap c [] due s refl (command-fits address true subaddress (count_field count) (omega (arith, own)) low f) tt
    (address_of-command_word address true subaddress (count_field count) low f ∙ at) (omega (arith, own, at))
    (due-none c false m t) (omega (arith, many.1, due_is)) ready found can
    (λ h free. sent-words s.own c h t m free ∙ count_of-command_word address true subaddress count many.0 many.1 ∙ due_is)
one_replies b line (Between sender sender_subaddress receiver receiver_subaddress count) gap due s ready is legal dues alone found can = absurd cc
one_replies b line (Mode address subaddress code) gap due s ready is legal dues alone found can =
    let own = leb-true address 30 (head_three (is_address address) (is_code_alone code) (is_no_word None) Address CountOrCode ModeWord is.lawful) in
    let small = leb-true code 15 (middle_met (is_address address) (is_code_alone code) (is_no_word None) Address CountOrCode ModeWord is.lawful) in
    let low : code ≤ 31 = omega (arith, small) in
    let d = due-is (record { address = address; words = 0 }) due dues in
    let at : address ≡ due.address = ap (λ (x : Due). x.address) d in
    let none : 0 ≡ due.words = ap (λ (x : Due). x.words) d in
    let c = mode_command address true subaddress code in
    let f = subaddress-fits subaddress in
    let m = is-mode address true subaddress code low in
    let t = transmit-of address true (mode_subaddress subaddress) code f low in
    one-reply b line (Mode address subaddress code) gap c [] due s refl (command-fits address true (mode_subaddress subaddress) code (omega (arith, own)) f low) tt
    (address_of-command_word address true (mode_subaddress subaddress) code f low ∙ at) (omega (arith, own, at))
    (due-none c true m t) (omega (arith, none)) ready found can
    (λ h free. sent-no_word s.own c code h t m (code_of-command_word address true (mode_subaddress subaddress) code low) small free ∙ none)
one_replies b line (ModeFrom address subaddress code) gap due s ready is legal dues alone found can =
    let own = leb-true address 30 (head_three (is_address address) (is_code_from code) (is_no_word None) Address CountOrCode ModeWord is.lawful) in
    let from = and_parts (nat_le code 31) (data_word_count true code == 1) (middle_met (is_address address) (is_code_from code) (is_no_word None) Address CountOrCode ModeWord is.lawful) in
    let low = leb-true code 31 from.0 in
    let d = due-is (record { address = address; words = 1 }) due dues in
    let at : address ≡ due.address = ap (λ (x : Due). x.address) d in
    let one : 1 ≡ due.words = ap (λ (x : Due). x.words) d in
    let c = mode_command address true subaddress code in
    let f = subaddress-fits subaddress in
    let m = is-mode address true subaddress code low in
    let t = transmit-of address true (mode_subaddress subaddress) code f low in
    let code_is = code_of-command_word address true (mode_subaddress subaddress) code low in
    let known : is_known true code ≡ true = sym (ap (λ x. is_known x (code_of c)) t ∙ ap (is_known true) code_is) ∙ legal-known c (or-none (is_unknown c) legal) m in
    one-reply b line (ModeFrom address subaddress code) gap c [] due s refl (command-fits address true (mode_subaddress subaddress) code (omega (arith, own)) f low) tt
    (address_of-command_word address true (mode_subaddress subaddress) code f low ∙ at) (omega (arith, own, at))
    (due-none c true m t) (omega (arith, one)) ready found can
    (λ h free. sent-one_word s.own c code h t m code_is (from-codes code low known from.1) free ∙ one)
one_replies b line (ModeTo address subaddress code word) gap due s ready is legal dues alone found can =
    let own = leb-true address 30 (head_three (is_address address) (is_code_to code) (is_one_word (Some (word ∷ []))) Address CountOrCode ModeWord is.lawful) in
    let to = and_parts (nat_le code 31) (data_word_count false code == 1) (middle_met (is_address address) (is_code_to code) (is_one_word (Some (word ∷ []))) Address CountOrCode ModeWord is.lawful) in
    let low = leb-true code 31 to.0 in
    let d = due-is (record { address = address; words = 0 }) due dues in
    let at : address ≡ due.address = ap (λ (x : Due). x.address) d in
    let none : 0 ≡ due.words = ap (λ (x : Due). x.words) d in
    let c = mode_command address false subaddress code in
    let f = subaddress-fits subaddress in
    let m = is-mode address false subaddress code low in
    let t = transmit-of address false (mode_subaddress subaddress) code f low in
    let code_is = code_of-command_word address false (mode_subaddress subaddress) code low in
    let high : nat_le 16 (code_of c) ≡ true = ap (nat_le 16) code_is ∙ to-codes code low to.1 in
    one-reply b line (ModeTo address subaddress code word) gap c (word ∷ []) due s refl (command-fits address false (mode_subaddress subaddress) code (omega (arith, own)) f low) is.words
    (address_of-command_word address false (mode_subaddress subaddress) code f low ∙ at) (omega (arith, own, at))
    (due-one c m t high) (omega (arith, none)) ready found can
    (λ h free. sent-none s.own c h t ∙ none)
one_replies b line (ToAll subaddress words) gap due s ready is legal dues alone found can = absurd cc
one_replies b line (BetweenAll sender sender_subaddress receiver_subaddress count) gap due s ready is legal dues alone found can = absurd cc
one_replies b line (ModeAll subaddress code) gap due s ready is legal dues alone found can = absurd cc
one_replies b line (ModeAllTo subaddress code word) gap due s ready is legal dues alone found can = absurd cc
