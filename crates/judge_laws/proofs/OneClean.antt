-- The forms with one command that one reply is due to.
use Rattle.std.proofs.Common.{◌≡◌, ℕ, ◌≤◌, ◌==◌, true, false, [], ◌∷◌, length, refl, sym, ap, ◌∙◌, arith, None, Some}
use Rattle.std.specs.Prelude.{nat_le}
use Rattle.std.proofs.lemmas.Bool.{leb-true, eqb-true, and_parts}
use Rattle.std.proofs.lemmas.List.{length-map, nil_from_length}
use Rattle.mil_word.specs.declared.Line.{Line}
use Rattle.mil_mode.specs.Table.{data_word_count}
use Rattle.mil_message.specs.declared.faults.BadMessage.TheVariants.{Address, Subaddress, CountOrCode, ModeWord}
use Rattle.mil_message.specs.declared.forms.Due.{Due}
use Rattle.mil_message.specs.declared.forms.Form.{Form}
use Rattle.mil_message.specs.declared.forms.Form.TheVariants.{ToTerminal, FromTerminal, Between, Mode, ModeFrom, ModeTo, ToAll, BetweenAll, ModeAll, ModeAllTo}
use Rattle.mil_message.specs.Forms.{first_command, second_command, replies_due, mode_subaddress, mode_command, receive_command, transmit_command, count_field, data_of}
use Rattle.mil_message.specs.Rules.{is_address, is_subaddress, is_count, is_code_alone, is_code_from, is_code_to, is_no_word, is_one_word}
use Rattle.mil_message.proofs.Checked.{middle_met, third_met}
use Rattle.mil_message.proofs.ReadBack.{address_of-command_word, code_of-command_word}
use Rattle.mil_terminal.specs.Station.{Station}
use Rattle.mil_terminal.specs.Verdicts.{is_unknown}
use Rattle.mil_bus.specs.Actions.{station_of}
use Rattle.mil_bus.specs.Exchange.{BusState, last_on, gap_since, talk_start, exchange_of, talk_of}
use Rattle.bench_judge.specs.Clean.{clean}
use Rattle.judge_laws.specs.Messages.{AreReady, IsMessage, IsLegal, CanReply, IsAnswered}
use Rattle.judge_laws.proofs.AllForms.{command-fits, subaddress-fits, field-fits}
use Rattle.judge_laws.proofs.Fields.{transmit-of, not-mode, is-mode, alone-codes}
use Rattle.judge_laws.proofs.OneForms.{in-range, or-none, head_three, due-is, one_replies}
use Rattle.judge_laws.specs.Clean.{recorded}
use Rattle.judge_laws.proofs.Numbers.{to-one, number-0, number-1, number-3, number-4, number-5}
use Rattle.judge_laws.proofs.Recorded.{transmit-clean, receive-clean}

not-none : (n : ℕ) → (n == 1) ≡ true → (n == 0) ≡ false
not-none n is = ap (λ k. k == 0) (eqb-true n 1 is)

pub clean_to_one : (b : BusState) (line : Line) (form : Form) (gap : ℕ) (due : Due) (s : Station) → AreReady b.stations → IsMessage form → IsLegal form
    → replies_due form ≡ due ∷ [] → second_command form ≡ None → station_of due.address b.stations ≡ Some s → CanReply line (first_command form) s
    → clean (recorded b line form gap) ≡ true
unfolding talk_of
clean_to_one b line (ToTerminal address subaddress words) gap due s ready is legal dues alone found can =
    let form = ToTerminal address subaddress words in
    let n = length words.items in
    let low_address = leb-true address 30 (head_three (is_address address) (is_subaddress subaddress) (is_count n) Address Subaddress CountOrCode is.lawful) in
    let sub = in-range 1 subaddress 30 (middle_met (is_address address) (is_subaddress subaddress) (is_count n) Address Subaddress CountOrCode is.lawful) in
    let count = in-range 1 n 32 (third_met (is_address address) (is_subaddress subaddress) (is_count n) Address Subaddress CountOrCode is.lawful) in
    let low : subaddress ≤ 31 = omega (arith, sub.1) in
    let c = receive_command address subaddress n in
    let f = field-fits n in
    let m = not-mode address false subaddress (count_field n) sub.0 sub.1 f in
    let t = transmit-of address false subaddress (count_field n) low f in
    let own = to-one c address (address_of-command_word address false subaddress (count_field n) low f) low_address in
    let none : 0 ≡ due.words = ap (λ (x : Due). x.words) (due-is (record { address = address; words = 0 }) due dues) in
    let answer : IsAnswered b line form gap due = one_replies b line form gap due s ready is legal dues alone found can in
    receive-clean (talk_start b gap) line form (gap_since (last_on line b.talks) (talk_start b gap)) c words.items due answer.time answer.status answer.values (exchange_of b line form gap []).sent
    (record {
      single = record {
        lawful = is.lawful;
        small = command-fits address false subaddress (count_field n) (omega (arith, low_address)) low f;
        words = is.words;
        legal = or-none (is_unknown c) legal;
        first = refl;
        alone = refl;
        number = number-0 c m t own;
        words_are = refl;
        long = omega (arith, length-map words.items data_of);
      };
      dues = dues;
      own = own;
      reply = answer.as_due;
      few = omega (arith, count.1, answer.as_due.many, none);
      is_sent = answer.sent;
    })
    t (nil_from_length answer.values (answer.as_due.many ∙ sym none)) refl
clean_to_one b line (FromTerminal address subaddress count) gap due s ready is legal dues alone found can =
    let form = FromTerminal address subaddress count in
    let low_address = leb-true address 30 (head_three (is_address address) (is_subaddress subaddress) (is_count count) Address Subaddress CountOrCode is.lawful) in
    let sub = in-range 1 subaddress 30 (middle_met (is_address address) (is_subaddress subaddress) (is_count count) Address Subaddress CountOrCode is.lawful) in
    let many = in-range 1 count 32 (third_met (is_address address) (is_subaddress subaddress) (is_count count) Address Subaddress CountOrCode is.lawful) in
    let low : subaddress ≤ 31 = omega (arith, sub.1) in
    let c = transmit_command address subaddress count in
    let f = field-fits count in
    let m = not-mode address true subaddress (count_field count) sub.0 sub.1 f in
    let t = transmit-of address true subaddress (count_field count) low f in
    let own = to-one c address (address_of-command_word address true subaddress (count_field count) low f) low_address in
    let all : count ≡ due.words = ap (λ (x : Due). x.words) (due-is (record { address = address; words = count }) due dues) in
    let answer : IsAnswered b line form gap due = one_replies b line form gap due s ready is legal dues alone found can in
    transmit-clean (talk_start b gap) line form (gap_since (last_on line b.talks) (talk_start b gap)) c [] due answer.time answer.status answer.values (exchange_of b line form gap []).sent
    (record {
      single = record {
        lawful = is.lawful;
        small = command-fits address true subaddress (count_field count) (omega (arith, low_address)) low f;
        words = is.words;
        legal = or-none (is_unknown c) legal;
        first = refl;
        alone = refl;
        number = number-1 c m t;
        words_are = refl;
        long = refl;
      };
      dues = dues;
      own = own;
      reply = answer.as_due;
      few = omega (arith, many.1, answer.as_due.many, all);
      is_sent = answer.sent;
    })
    t refl refl
clean_to_one b line (Between sender sender_subaddress receiver receiver_subaddress count) gap due s ready is legal dues alone found can = absurd cc
clean_to_one b line (Mode address subaddress code) gap due s ready is legal dues alone found can =
    let form = Mode address subaddress code in
    let low_address = leb-true address 30 (head_three (is_address address) (is_code_alone code) (is_no_word None) Address CountOrCode ModeWord is.lawful) in
    let fits = middle_met (is_address address) (is_code_alone code) (is_no_word None) Address CountOrCode ModeWord is.lawful in
    let low : code ≤ 31 = omega (arith, leb-true code 15 fits) in
    let c = mode_command address true subaddress code in
    let f = subaddress-fits subaddress in
    let m = is-mode address true subaddress code low in
    let t = transmit-of address true (mode_subaddress subaddress) code f low in
    let own = to-one c address (address_of-command_word address true (mode_subaddress subaddress) code f low) low_address in
    let code_is = code_of-command_word address true (mode_subaddress subaddress) code low in
    let none : 0 ≡ due.words = ap (λ (x : Due). x.words) (due-is (record { address = address; words = 0 }) due dues) in
    let answer : IsAnswered b line form gap due = one_replies b line form gap due s ready is legal dues alone found can in
    transmit-clean (talk_start b gap) line form (gap_since (last_on line b.talks) (talk_start b gap)) c [] due answer.time answer.status answer.values (exchange_of b line form gap []).sent
    (record {
      single = record {
        lawful = is.lawful;
        small = command-fits address true (mode_subaddress subaddress) code (omega (arith, low_address)) f low;
        words = is.words;
        legal = or-none (is_unknown c) legal;
        first = refl;
        alone = refl;
        number = number-3 c m t own (ap (λ k. data_word_count true k == 0) code_is ∙ alone-codes code low fits);
        words_are = refl;
        long = refl;
      };
      dues = dues;
      own = own;
      reply = answer.as_due;
      few = omega (arith, answer.as_due.many, none);
      is_sent = answer.sent;
    })
    t refl refl
clean_to_one b line (ModeFrom address subaddress code) gap due s ready is legal dues alone found can =
    let form = ModeFrom address subaddress code in
    let low_address = leb-true address 30 (head_three (is_address address) (is_code_from code) (is_no_word None) Address CountOrCode ModeWord is.lawful) in
    let fits = middle_met (is_address address) (is_code_from code) (is_no_word None) Address CountOrCode ModeWord is.lawful in
    let parts = and_parts (nat_le code 31) (data_word_count true code == 1) fits in
    let low = leb-true code 31 parts.0 in
    let c = mode_command address true subaddress code in
    let f = subaddress-fits subaddress in
    let m = is-mode address true subaddress code low in
    let t = transmit-of address true (mode_subaddress subaddress) code f low in
    let own = to-one c address (address_of-command_word address true (mode_subaddress subaddress) code f low) low_address in
    let code_is = code_of-command_word address true (mode_subaddress subaddress) code low in
    let one : 1 ≡ due.words = ap (λ (x : Due). x.words) (due-is (record { address = address; words = 1 }) due dues) in
    let answer : IsAnswered b line form gap due = one_replies b line form gap due s ready is legal dues alone found can in
    transmit-clean (talk_start b gap) line form (gap_since (last_on line b.talks) (talk_start b gap)) c [] due answer.time answer.status answer.values (exchange_of b line form gap []).sent
    (record {
      single = record {
        lawful = is.lawful;
        small = command-fits address true (mode_subaddress subaddress) code (omega (arith, low_address)) f low;
        words = is.words;
        legal = or-none (is_unknown c) legal;
        first = refl;
        alone = refl;
        number = number-4 c m t own (ap (λ k. data_word_count true k == 0) code_is ∙ not-none (data_word_count true code) parts.1);
        words_are = refl;
        long = refl;
      };
      dues = dues;
      own = own;
      reply = answer.as_due;
      few = omega (arith, answer.as_due.many, one);
      is_sent = answer.sent;
    })
    t refl refl
clean_to_one b line (ModeTo address subaddress code word) gap due s ready is legal dues alone found can =
    let form = ModeTo address subaddress code word in
    let low_address = leb-true address 30 (head_three (is_address address) (is_code_to code) (is_one_word (Some (word ∷ []))) Address CountOrCode ModeWord is.lawful) in
    let fits = middle_met (is_address address) (is_code_to code) (is_one_word (Some (word ∷ []))) Address CountOrCode ModeWord is.lawful in
    let parts = and_parts (nat_le code 31) (data_word_count false code == 1) fits in
    let low = leb-true code 31 parts.0 in
    let c = mode_command address false subaddress code in
    let f = subaddress-fits subaddress in
    let m = is-mode address false subaddress code low in
    let t = transmit-of address false (mode_subaddress subaddress) code f low in
    let own = to-one c address (address_of-command_word address false (mode_subaddress subaddress) code f low) low_address in
    let code_is = code_of-command_word address false (mode_subaddress subaddress) code low in
    let none : 0 ≡ due.words = ap (λ (x : Due). x.words) (due-is (record { address = address; words = 0 }) due dues) in
    let answer : IsAnswered b line form gap due = one_replies b line form gap due s ready is legal dues alone found can in
    receive-clean (talk_start b gap) line form (gap_since (last_on line b.talks) (talk_start b gap)) c (word ∷ []) due answer.time answer.status answer.values (exchange_of b line form gap []).sent
    (record {
      single = record {
        lawful = is.lawful;
        small = command-fits address false (mode_subaddress subaddress) code (omega (arith, low_address)) f low;
        words = is.words;
        legal = or-none (is_unknown c) legal;
        first = refl;
        alone = refl;
        number = number-5 c m t own;
        words_are = refl;
        long = refl;
      };
      dues = dues;
      own = own;
      reply = answer.as_due;
      few = omega (arith, answer.as_due.many, none);
      is_sent = answer.sent;
    })
    t (nil_from_length answer.values (answer.as_due.many ∙ sym none)) refl
clean_to_one b line (ToAll subaddress words) gap due s ready is legal dues alone found can = absurd cc
clean_to_one b line (BetweenAll sender sender_subaddress receiver_subaddress count) gap due s ready is legal dues alone found can = absurd cc
clean_to_one b line (ModeAll subaddress code) gap due s ready is legal dues alone found can = absurd cc
clean_to_one b line (ModeAllTo subaddress code word) gap due s ready is legal dues alone found can = absurd cc
