-- The transfer from one terminal to another.
use Rattle.std.proofs.Common.{◌≡◌, ℕ, ◌≤◌, ◌==◌, Bool, true, false, ◌&&◌, ◌||◌, [], ◌∷◌, refl, sym, ap, ◌∙◌, arith, None, Some}
use Rattle.std.specs.Prelude.{not}
use Rattle.std.proofs.lemmas.Bool.{leb-true, and_parts}
use Rattle.mil_word.specs.declared.Line.{Line}
use Rattle.mil_word.specs.Fields.{is_mode, is_transmit, is_receive, is_broadcast}
use Rattle.mil_message.specs.declared.faults.BadMessage.{BadMessage}
use Rattle.mil_message.specs.declared.faults.BadMessage.TheVariants.{Address, Subaddress, CountOrCode, SameEnds}
use Rattle.mil_message.specs.declared.forms.Due.{Due}
use Rattle.mil_message.specs.declared.forms.Form.{Form}
use Rattle.mil_message.specs.declared.forms.Form.TheVariants.{ToTerminal, FromTerminal, Between, Mode, ModeFrom, ModeTo, ToAll, BetweenAll, ModeAll, ModeAllTo}
use Rattle.mil_message.specs.Forms.{first_command, second_command, replies_due, receive_command, transmit_command, count_field}
use Rattle.mil_message.specs.Rules.{first_fault, is_address, is_subaddress, is_count}
use Rattle.mil_message.proofs.ReadBack.{address_of-command_word, count_of-command_word}
use Rattle.mil_terminal.specs.Station.{Station}
use Rattle.mil_terminal.specs.Verdicts.{is_unknown}
use Rattle.mil_bus.specs.Actions.{station_of}
use Rattle.mil_bus.specs.Exchange.{BusState, last_on, gap_since, talk_start, exchange_of, talk_of}
use Rattle.bench_judge.specs.Clean.{form_number_of, clean}
use Rattle.judge_laws.specs.Clean.{recorded}
use Rattle.judge_laws.specs.Messages.{AreReady, IsMessage, IsLegal, CanReply, AreAnswered}
use Rattle.judge_laws.proofs.AllForms.{command-fits, field-fits}
use Rattle.judge_laws.proofs.Fields.{transmit-of, not-mode, due-received, due-none, sent-words}
use Rattle.judge_laws.proofs.OneForms.{in-range}
use Rattle.judge_laws.proofs.Numbers.{to-one}
use Rattle.judge_laws.proofs.Between.{both-reply}
use Rattle.judge_laws.proofs.RecordedTwo.{transfer-clean}

-- what the ranges of a transfer say
pub record AreRanges (sender sender_subaddress receiver receiver_subaddress count : ℕ) : Type 0 where
  low_sender : sender ≤ 30
  low_receiver : receiver ≤ 30
  from_low : 1 ≤ sender_subaddress
  from_high : sender_subaddress ≤ 30
  to_low : 1 ≤ receiver_subaddress
  to_high : receiver_subaddress ≤ 30
  some : 1 ≤ count
  few : count ≤ 32
  apart : (sender == receiver) ≡ false

all_four : (a b c d : Bool) (x y z w : BadMessage) → first_fault ((a, x) ∷ (b, y) ∷ (c, z) ∷ (d, w) ∷ []) ≡ None → (a ≡ true) × (b ≡ true) × (c ≡ true) × (d ≡ true)
all_four true true true true x y z w met = (refl, refl, refl, refl)
all_four true true true false x y z w met = absurd cc
all_four true true false d x y z w met = absurd cc
all_four true false c d x y z w met = absurd cc
all_four false b c d x y z w met = absurd cc

not_true : (b : Bool) → not b ≡ true → b ≡ false
not_true true is = absurd cc
not_true false is = refl

ranges : (sender sender_subaddress receiver receiver_subaddress count : ℕ) → IsMessage (Between sender sender_subaddress receiver receiver_subaddress count) → AreRanges sender sender_subaddress receiver receiver_subaddress count
ranges sender sender_subaddress receiver receiver_subaddress count is =
    let met = all_four (is_address sender && is_address receiver) (is_subaddress sender_subaddress && is_subaddress receiver_subaddress) (is_count count) (not (sender == receiver)) Address Subaddress CountOrCode SameEnds is.lawful in
    let ends = and_parts (is_address sender) (is_address receiver) met.0 in
    let subs = and_parts (is_subaddress sender_subaddress) (is_subaddress receiver_subaddress) met.1 in
    let from = in-range 1 sender_subaddress 30 subs.0 in
    let to = in-range 1 receiver_subaddress 30 subs.1 in
    let many = in-range 1 count 32 met.2 in
    record {
      low_sender = leb-true sender 30 ends.0;
      low_receiver = leb-true receiver 30 ends.1;
      from_low = from.0;
      from_high = from.1;
      to_low = to.0;
      to_high = to.1;
      some = many.0;
      few = many.1;
      apart = not_true (sender == receiver) met.3;
    }

due-are : (a b c d : Due) → a ∷ b ∷ [] ≡ c ∷ d ∷ [] → (a ≡ c) × (b ≡ d)
due-are a b c d is = (cc, cc)

pub some-is : (a b : ℕ) → Some a ≡ Some b → a ≡ b
some-is a b is = cc

pub or-first-none : (a b : Bool) → (a || (b || false)) ≡ false → a ≡ false
or-first-none true b is = absurd cc
or-first-none false b is = refl

receive-is : (c : ℕ) → is_mode c ≡ false → is_transmit c ≡ false → is_receive c ≡ true
receive-is c m t = rw (m, t) refl

number-2 : (c : ℕ) → is_broadcast c ≡ false → form_number_of true c ≡ 2
number-2 c b = rw b refl

pub both_reply : (b : BusState) (line : Line) (sender sender_subaddress receiver receiver_subaddress count gap : ℕ) (first second : Due) (s r : Station)
    → (let form = Between sender sender_subaddress receiver receiver_subaddress count in AreReady b.stations → IsMessage form → replies_due form ≡ first ∷ second ∷ []
    → station_of first.address b.stations ≡ Some s → station_of second.address b.stations ≡ Some r
    → CanReply line (transmit_command sender sender_subaddress count) s → CanReply line (receive_command receiver receiver_subaddress count) r
    → AreAnswered b line form gap first second)
both_reply b line sender sender_subaddress receiver receiver_subaddress count gap first second s r ready is dues found_s found_r can_s can_r =
    let form = Between sender sender_subaddress receiver receiver_subaddress count in
    let a = ranges sender sender_subaddress receiver receiver_subaddress count is in
    let d = due-are (record { address = sender; words = count }) (record { address = receiver; words = 0 }) first second dues in
    let at_s : sender ≡ first.address = ap (λ (x : Due). x.address) d.0 in
    let at_r : receiver ≡ second.address = ap (λ (x : Due). x.address) d.1 in
    let c1 = receive_command receiver receiver_subaddress count in
    let c2 = transmit_command sender sender_subaddress count in
    let f = field-fits count in
    let low_to : receiver_subaddress ≤ 31 = omega (arith, a.to_high) in
    let low_from : sender_subaddress ≤ 31 = omega (arith, a.from_high) in
    let m1 = not-mode receiver false receiver_subaddress (count_field count) a.to_low a.to_high f in
    let t1 = transmit-of receiver false receiver_subaddress (count_field count) low_to f in
    let m2 = not-mode sender true sender_subaddress (count_field count) a.from_low a.from_high f in
    let t2 = transmit-of sender true sender_subaddress (count_field count) low_from f in
    both-reply b line form gap c1 c2 count first second s r refl (sym (ap (λ (x : Due). x.words) d.1)) (sym (ap (λ (x : Due). x.words) d.0)) a.few ready found_s found_r
    (λ g idle_s idle_r own_s own_r. record {
      small_first = command-fits receiver false receiver_subaddress (count_field count) (omega (arith, a.low_receiver)) low_to f;
      small_second = command-fits sender true sender_subaddress (count_field count) (omega (arith, a.low_sender)) low_from f;
      first_is = address_of-command_word receiver false receiver_subaddress (count_field count) low_to f ∙ at_r;
      second_is = address_of-command_word sender true sender_subaddress (count_field count) low_from f ∙ at_s;
      low_sender = omega (arith, a.low_sender, at_s);
      low_receiver = omega (arith, a.low_receiver, at_r);
      apart = sym (ap (λ n. n == receiver) at_s ∙ ap (λ n. first.address == n) at_r) ∙ a.apart;
      receives = receive-is c1 m1 t1;
      no_transmit = t1;
      transmits = t2;
      no_mode = m2;
      announced = due-received c1 m1 t1 ∙ count_of-command_word receiver false receiver_subaddress count a.some a.few;
      none_due = due-none c2 false m2 t2;
      sender_own = own_s;
      receiver_own = own_r;
      sender_idle = idle_s;
      receiver_idle = idle_r;
      sender_can = can_s;
      receiver_can = can_r;
      many = λ h free. sent-words s.own c2 h t2 m2 free ∙ count_of-command_word sender true sender_subaddress count a.some a.few;
    })

pub clean_between : (b : BusState) (line : Line) (sender sender_subaddress receiver receiver_subaddress count gap : ℕ) (first second : Due) (s r : Station)
    → (let form = Between sender sender_subaddress receiver receiver_subaddress count in AreReady b.stations → IsMessage form → IsLegal form → replies_due form ≡ first ∷ second ∷ []
    → station_of first.address b.stations ≡ Some s → station_of second.address b.stations ≡ Some r
    → CanReply line (transmit_command sender sender_subaddress count) s → CanReply line (receive_command receiver receiver_subaddress count) r
    → clean (recorded b line form gap) ≡ true)
unfolding talk_of
clean_between b line sender sender_subaddress receiver receiver_subaddress count gap first second s r ready is legal dues found_s found_r can_s can_r =
    let form = Between sender sender_subaddress receiver receiver_subaddress count in
    let a = ranges sender sender_subaddress receiver receiver_subaddress count is in
    let d = due-are (record { address = sender; words = count }) (record { address = receiver; words = 0 }) first second dues in
    let c1 = receive_command receiver receiver_subaddress count in
    let c2 = transmit_command sender sender_subaddress count in
    let f = field-fits count in
    let low_to : receiver_subaddress ≤ 31 = omega (arith, a.to_high) in
    let low_from : sender_subaddress ≤ 31 = omega (arith, a.from_high) in
    let words : count ≡ first.words = ap (λ (x : Due). x.words) d.0 in
    let answer : AreAnswered b line form gap first second = both_reply b line sender sender_subaddress receiver receiver_subaddress count gap first second s r ready is dues found_s found_r can_s can_r in
    transfer-clean (talk_start b gap) line form (gap_since (last_on line b.talks) (talk_start b gap)) c1 c2 first second answer.first_time answer.first_status answer.second_time answer.second_status answer.first_values
    (exchange_of b line form gap []).sent
    (record {
      lawful = is.lawful;
      small_first = command-fits receiver false receiver_subaddress (count_field count) (omega (arith, a.low_receiver)) low_to f;
      small_second = command-fits sender true sender_subaddress (count_field count) (omega (arith, a.low_sender)) low_from f;
      legal = or-first-none (is_unknown c1) (is_unknown c2) legal;
      first = refl;
      second = refl;
      number = number-2 c1 (to-one c1 receiver (address_of-command_word receiver false receiver_subaddress (count_field count) low_to f) a.low_receiver);
      sends = refl;
      none = refl;
      long = refl;
    })
    dues answer.first_due answer.second_due (omega (arith, words, a.few)) answer.sent

-- ---- in the words of the law, which names no form

pub clean_of_two : (b : BusState) (line : Line) (form : Form) (gap : ℕ) (first second : Due) (c : ℕ) (s r : Station) → AreReady b.stations → IsMessage form → IsLegal form
    → replies_due form ≡ first ∷ second ∷ [] → second_command form ≡ Some c → station_of first.address b.stations ≡ Some s → station_of second.address b.stations ≡ Some r
    → CanReply line c s → CanReply line (first_command form) r → clean (recorded b line form gap) ≡ true
clean_of_two b line (ToTerminal address subaddress words) gap first second c s r ready is legal dues calls found_s found_r can_s can_r = absurd cc
clean_of_two b line (FromTerminal address subaddress count) gap first second c s r ready is legal dues calls found_s found_r can_s can_r = absurd cc
clean_of_two b line (Between sender sender_subaddress receiver receiver_subaddress count) gap first second c s r ready is legal dues calls found_s found_r can_s can_r =
    let same : transmit_command sender sender_subaddress count ≡ c = some-is (transmit_command sender sender_subaddress count) c calls in
    let can : CanReply line (transmit_command sender sender_subaddress count) s = rw same can_s in
    clean_between b line sender sender_subaddress receiver receiver_subaddress count gap first second s r ready is legal dues found_s found_r can can_r
clean_of_two b line (Mode address subaddress code) gap first second c s r ready is legal dues calls found_s found_r can_s can_r = absurd cc
clean_of_two b line (ModeFrom address subaddress code) gap first second c s r ready is legal dues calls found_s found_r can_s can_r = absurd cc
clean_of_two b line (ModeTo address subaddress code word) gap first second c s r ready is legal dues calls found_s found_r can_s can_r = absurd cc
clean_of_two b line (ToAll subaddress words) gap first second c s r ready is legal dues calls found_s found_r can_s can_r = absurd cc
clean_of_two b line (BetweenAll sender sender_subaddress receiver_subaddress count) gap first second c s r ready is legal dues calls found_s found_r can_s can_r = absurd cc
clean_of_two b line (ModeAll subaddress code) gap first second c s r ready is legal dues calls found_s found_r can_s can_r = absurd cc
clean_of_two b line (ModeAllTo subaddress code word) gap first second c s r ready is legal dues calls found_s found_r can_s can_r = absurd cc
