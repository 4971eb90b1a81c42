-- The transfer from one terminal to all others.
use Rattle.std.proofs.Common.{◌≡◌, ℕ, ◌≤◌, true, false, ◌&&◌, [], ◌∷◌, refl, sym, ap, ◌∙◌, arith, Some}
use Rattle.std.proofs.lemmas.Bool.{leb-true, and_parts}
use Rattle.mil_word.specs.declared.Line.{Line}
use Rattle.mil_word.specs.Fields.{is_broadcast}
use Rattle.mil_message.specs.declared.faults.BadMessage.TheVariants.{Address, Subaddress, CountOrCode}
use Rattle.mil_message.specs.declared.forms.Due.{Due}
use Rattle.mil_message.specs.declared.forms.Form.{Form}
use Rattle.mil_message.specs.declared.forms.Form.TheVariants.{ToTerminal, FromTerminal, Between, Mode, ModeFrom, ModeTo, ToAll, BetweenAll, ModeAll, ModeAllTo}
use Rattle.mil_message.specs.Forms.{second_command, replies_due, receive_command, transmit_command, count_field, all_terminals}
use Rattle.mil_message.specs.Rules.{is_address, is_subaddress, is_count}
use Rattle.mil_message.proofs.Checked.{middle_met, third_met}
use Rattle.mil_message.proofs.ReadBack.{address_of-command_word, count_of-command_word}
use Rattle.mil_terminal.specs.Station.{Station}
use Rattle.mil_terminal.specs.Verdicts.{is_unknown}
use Rattle.mil_bus.specs.Actions.{station_of}
use Rattle.mil_bus.specs.Exchange.{BusState, last_on, gap_since, talk_start, exchange_of, talk_of}
use Rattle.bench_judge.specs.Clean.{form_number_of, clean}
use Rattle.judge_laws.specs.Clean.{recorded}
use Rattle.judge_laws.specs.Messages.{AreReady, IsMessage, IsLegal, CanReply, IsAnswered}
use Rattle.judge_laws.proofs.AllForms.{command-fits, field-fits}
use Rattle.judge_laws.proofs.Fields.{transmit-of, not-mode, due-none, sent-words}
use Rattle.judge_laws.proofs.OneForms.{in-range, head_three, due-is}
use Rattle.judge_laws.proofs.Numbers.{to-all}
use Rattle.judge_laws.proofs.BetweenForms.{some-is, or-first-none}
use Rattle.judge_laws.proofs.BetweenAll.{all-reply}
use Rattle.judge_laws.proofs.RecordedTwo.{all-transfer-clean}

number-7 : (c : ℕ) → is_broadcast c ≡ true → form_number_of true c ≡ 7
number-7 c b = rw b refl

pub clean_from_one_to_all : (b : BusState) (line : Line) (form : Form) (gap : ℕ) (due : Due) (c : ℕ) (s : Station) → AreReady b.stations → IsMessage form → IsLegal form
    → replies_due form ≡ due ∷ [] → second_command form ≡ Some c → station_of due.address b.stations ≡ Some s → CanReply line c s → clean (recorded b line form gap) ≡ true
unfolding talk_of
clean_from_one_to_all b line (ToTerminal address subaddress words) gap due c s ready is legal dues calls found can = absurd cc
clean_from_one_to_all b line (FromTerminal address subaddress count) gap due c s ready is legal dues calls found can = absurd cc
clean_from_one_to_all b line (Between sender sender_subaddress receiver receiver_subaddress count) gap due c s ready is legal dues calls found can = absurd cc
clean_from_one_to_all b line (Mode address subaddress code) gap due c s ready is legal dues calls found can = absurd cc
clean_from_one_to_all b line (ModeFrom address subaddress code) gap due c s ready is legal dues calls found can = absurd cc
clean_from_one_to_all b line (ModeTo address subaddress code word) gap due c s ready is legal dues calls found can = absurd cc
clean_from_one_to_all b line (ToAll subaddress words) gap due c s ready is legal dues calls found can = absurd cc
clean_from_one_to_all b line (BetweenAll sender sender_subaddress receiver_subaddress count) gap due c s ready is legal dues calls found can =
    let form = BetweenAll sender sender_subaddress receiver_subaddress count in
    let rule_subs = is_subaddress sender_subaddress && is_subaddress receiver_subaddress in
    let low = leb-true sender 30 (head_three (is_address sender) rule_subs (is_count count) Address Subaddress CountOrCode is.lawful) in
    let subs = and_parts (is_subaddress sender_subaddress) (is_subaddress receiver_subaddress) (middle_met (is_address sender) rule_subs (is_count count) Address Subaddress CountOrCode is.lawful) in
    let from = in-range 1 sender_subaddress 30 subs.0 in
    let to = in-range 1 receiver_subaddress 30 subs.1 in
    let many = in-range 1 count 32 (third_met (is_address sender) rule_subs (is_count count) Address Subaddress CountOrCode is.lawful) in
    let d = due-is (record { address = sender; words = count }) due dues in
    let at : sender ≡ due.address = ap (λ (x : Due). x.address) d in
    let words : count ≡ due.words = ap (λ (x : Due). x.words) d in
    let c1 = receive_command all_terminals receiver_subaddress count in
    let c2 = transmit_command sender sender_subaddress count in
    let same : c2 ≡ c = some-is c2 c calls in
    let can_send : CanReply line c2 s = rw same can in
    let f = field-fits count in
    let low_to : receiver_subaddress ≤ 31 = omega (arith, to.1) in
    let low_from : sender_subaddress ≤ 31 = omega (arith, from.1) in
    let m2 = not-mode sender true sender_subaddress (count_field count) from.0 from.1 f in
    let t2 = transmit-of sender true sender_subaddress (count_field count) low_from f in
    let small1 = command-fits 31 false receiver_subaddress (count_field count) (omega arith) low_to f in
    let small2 = command-fits sender true sender_subaddress (count_field count) (omega (arith, low)) low_from f in
    let everyone = address_of-command_word 31 false receiver_subaddress (count_field count) low_to f in
    let answer : IsAnswered b line form gap due =
    all-reply b line form gap c1 c2 count due s refl small1 small2 everyone (address_of-command_word sender true sender_subaddress (count_field count) low_from f ∙ at) (omega (arith, low, at))
    (due-none c2 false m2 t2) (sym words) many.1 ready found can_send (λ h free. sent-words s.own c2 h t2 m2 free ∙ count_of-command_word sender true sender_subaddress count many.0 many.1) in
    all-transfer-clean (talk_start b gap) line form (gap_since (last_on line b.talks) (talk_start b gap)) c1 c2 due answer.time answer.status answer.values (exchange_of b line form gap []).sent
    (record {
      lawful = is.lawful;
      small_first = small1;
      small_second = small2;
      legal = or-first-none (is_unknown c1) (is_unknown c2) legal;
      first = refl;
      second = refl;
      number = number-7 c1 (to-all c1 everyone);
      sends = refl;
      none = refl;
      long = refl;
    })
    dues answer.as_due (omega (arith, words, many.1)) answer.sent
clean_from_one_to_all b line (ModeAll subaddress code) gap due c s ready is legal dues calls found can = absurd cc
clean_from_one_to_all b line (ModeAllTo subaddress code word) gap due c s ready is legal dues calls found can = absurd cc
