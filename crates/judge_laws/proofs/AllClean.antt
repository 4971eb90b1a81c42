-- The forms that no reply is due to.
use Rattle.std.proofs.Common.{◌≡◌, ℕ, ◌≤◌, ◌==◌, true, false, [], ◌∷◌, length, refl, arith, None, Some}
use Rattle.std.specs.Prelude.{nat_le}
use Rattle.std.proofs.lemmas.Bool.{leb-true, and_parts}
use Rattle.std.proofs.lemmas.List.{length-map}
use Rattle.mil_word.specs.declared.Line.{Line}
use Rattle.mil_mode.specs.Table.{data_word_count}
use Rattle.mil_message.specs.declared.faults.BadMessage.TheVariants.{Subaddress, CountOrCode, ModeWord}
use Rattle.mil_message.specs.declared.forms.Form.{Form}
use Rattle.mil_message.specs.declared.forms.Form.TheVariants.{ToTerminal, FromTerminal, Between, Mode, ModeFrom, ModeTo, ToAll, BetweenAll, ModeAll, ModeAllTo}
use Rattle.mil_message.specs.Forms.{replies_due, mode_subaddress, mode_command, receive_command, count_field, all_terminals, data_of}
use Rattle.mil_message.specs.Rules.{is_subaddress, is_count, is_code_alone, is_code_to, is_no_word, is_one_word}
use Rattle.mil_message.proofs.Checked.{head_met, second_met}
use Rattle.mil_message.proofs.ReadBack.{address_of-command_word}
use Rattle.mil_terminal.specs.Verdicts.{is_unknown}
use Rattle.mil_bus.specs.Exchange.{BusState, last_on, gap_since, talk_start, exchange_of, talk_of}
use Rattle.bench_judge.specs.Clean.{clean}
use Rattle.judge_laws.specs.Messages.{AreTerminals, IsMessage, IsLegal}
use Rattle.judge_laws.proofs.AllForms.{command-fits, subaddress-fits, field-fits, nobody_answers}
use Rattle.judge_laws.proofs.Fields.{transmit-of, not-mode, is-mode}
use Rattle.judge_laws.proofs.OneForms.{in-range, or-none}
use Rattle.judge_laws.specs.Clean.{recorded}
use Rattle.judge_laws.proofs.Numbers.{to-all, number-6, number-8, number-9}
use Rattle.judge_laws.proofs.Recorded.{alone-clean}

pub clean_to_all : (b : BusState) (line : Line) (form : Form) (gap : ℕ) → AreTerminals b.stations → IsMessage form → IsLegal form → replies_due form ≡ [] → clean (recorded b line form gap) ≡ true
unfolding talk_of
clean_to_all b line (ToTerminal address subaddress words) gap terminals is legal none = absurd cc
clean_to_all b line (FromTerminal address subaddress count) gap terminals is legal none = absurd cc
clean_to_all b line (Between sender sender_subaddress receiver receiver_subaddress count) gap terminals is legal none = absurd cc
clean_to_all b line (Mode address subaddress code) gap terminals is legal none = absurd cc
clean_to_all b line (ModeFrom address subaddress code) gap terminals is legal none = absurd cc
clean_to_all b line (ModeTo address subaddress code word) gap terminals is legal none = absurd cc
clean_to_all b line (ToAll subaddress words) gap terminals is legal none =
    let form = ToAll subaddress words in
    let n = length words.items in
    let sub = in-range 1 subaddress 30 (head_met (is_subaddress subaddress) (is_count n) Subaddress CountOrCode is.lawful) in
    let count = in-range 1 n 32 (second_met (is_subaddress subaddress) (is_count n) Subaddress CountOrCode is.lawful) in
    let low : subaddress ≤ 31 = omega (arith, sub.1) in
    let c = receive_command all_terminals subaddress n in
    let f = field-fits n in
    let own = to-all c (address_of-command_word 31 false subaddress (count_field n) low f) in
    alone-clean (talk_start b gap) line form (gap_since (last_on line b.talks) (talk_start b gap)) c words.items (exchange_of b line form gap []).sent
    (record {
      lawful = is.lawful;
      small = command-fits 31 false subaddress (count_field n) (omega arith) low f;
      words = is.words;
      legal = or-none (is_unknown c) legal;
      first = refl;
      alone = refl;
      number = number-6 c (not-mode 31 false subaddress (count_field n) sub.0 sub.1 f) (transmit-of 31 false subaddress (count_field n) low f) own;
      words_are = refl;
      long = omega (arith, length-map words.items data_of);
    })
    count.1 refl none (nobody_answers b line form gap terminals is none)
clean_to_all b line (BetweenAll sender sender_subaddress receiver_subaddress count) gap terminals is legal none = absurd cc
clean_to_all b line (ModeAll subaddress code) gap terminals is legal none =
    let form = ModeAll subaddress code in
    let small : code ≤ 15 = leb-true code 15 (head_met (is_code_alone code) (is_no_word None) CountOrCode ModeWord is.lawful) in
    let low : code ≤ 31 = omega (arith, small) in
    let c = mode_command all_terminals true subaddress code in
    let f = subaddress-fits subaddress in
    let own = to-all c (address_of-command_word 31 true (mode_subaddress subaddress) code f low) in
    alone-clean (talk_start b gap) line form (gap_since (last_on line b.talks) (talk_start b gap)) c [] (exchange_of b line form gap []).sent
    (record {
      lawful = is.lawful;
      small = command-fits 31 true (mode_subaddress subaddress) code (omega arith) f low;
      words = tt;
      legal = or-none (is_unknown c) legal;
      first = refl;
      alone = refl;
      number = number-8 c (is-mode 31 true subaddress code low) (transmit-of 31 true (mode_subaddress subaddress) code f low) own;
      words_are = refl;
      long = refl;
    })
    (omega arith) refl none (nobody_answers b line form gap terminals is none)
clean_to_all b line (ModeAllTo subaddress code word) gap terminals is legal none =
    let form = ModeAllTo subaddress code word in
    let low : code ≤ 31 = leb-true code 31 (and_parts (nat_le code 31) (data_word_count false code == 1) (head_met (is_code_to code) (is_one_word (Some (word ∷ []))) CountOrCode ModeWord is.lawful)).0 in
    let c = mode_command all_terminals false subaddress code in
    let f = subaddress-fits subaddress in
    let own = to-all c (address_of-command_word 31 false (mode_subaddress subaddress) code f low) in
    alone-clean (talk_start b gap) line form (gap_since (last_on line b.talks) (talk_start b gap)) c (word ∷ []) (exchange_of b line form gap []).sent
    (record {
      lawful = is.lawful;
      small = command-fits 31 false (mode_subaddress subaddress) code (omega arith) f low;
      words = is.words;
      legal = or-none (is_unknown c) legal;
      first = refl;
      alone = refl;
      number = number-9 c (is-mode 31 false subaddress code low) (transmit-of 31 false (mode_subaddress subaddress) code f low) own;
      words_are = refl;
      long = refl;
    })
    (omega arith) refl none (nobody_answers b line form gap terminals is none)
