-- The forms that no reply is due to.
use Rattle.std.proofs.Common.{◌≡◌, ℕ, ◌<◌, ◌≤◌, ◌^◌, true, false, [], ◌∷◌, length, refl, arith}
use Rattle.std.specs.Prelude.{nat_le, ◌&&◌, ◌==◌}
use Rattle.std.proofs.lemmas.Bool.{leb-true, and_parts}
use Rattle.mil_word.specs.declared.Line.{Line}
use Rattle.mil_message.specs.declared.faults.BadMessage.TheVariants.{Subaddress, CountOrCode, ModeWord}
use Rattle.mil_message.specs.declared.drafts.ModeSubaddress.{ModeSubaddress}
use Rattle.mil_message.specs.declared.drafts.ModeSubaddress.TheVariants.{Zero, ThirtyOne}
use Rattle.mil_message.specs.declared.forms.Form.{Form}
use Rattle.mil_message.specs.declared.forms.Form.TheVariants.{ToTerminal, FromTerminal, Between, Mode, ModeFrom, ModeTo, ToAll, BetweenAll, ModeAll, ModeAllTo}
use Rattle.mil_message.specs.Forms.{replies_due, mode_subaddress, mode_command, receive_command, count_field, command_word, all_terminals}
use Rattle.mil_message.specs.Rules.{is_subaddress, is_count, is_code_alone, is_code_to, is_no_word, is_one_word}
use Rattle.mil_mode.specs.Table.{data_word_count}
use Rattle.mil_message.proofs.Checked.{head_met, second_met}
use Rattle.mil_message.proofs.ReadBack.{address_of-command_word}
use Rattle.mil_bus.specs.Exchange.{BusState, talk_of}
use Rattle.judge_laws.specs.Messages.{AreTerminals, IsMessage, controllers_run}
use Rattle.judge_laws.proofs.ToAll.{alone}
use Rattle.std.specs.Prelude.{Bool, None, Some}

-- a command word of 16 bits
pub command-fits : (address : ℕ) (transmit : Bool) (subaddress field : ℕ) → address ≤ 31 → subaddress ≤ 31 → field ≤ 31 → command_word address transmit subaddress field < 2 ^ 16
command-fits address true subaddress field a s f = omega arith
command-fits address false subaddress field a s f = omega arith

pub subaddress-fits : (subaddress : ModeSubaddress) → mode_subaddress subaddress ≤ 31
subaddress-fits Zero = omega arith
subaddress-fits ThirtyOne = omega arith

pub field-fits : (count : ℕ) → count_field count ≤ 31
field-fits count = omega arith

pub within : (low n high : ℕ) → (nat_le low n && nat_le n high) ≡ true → n ≤ high
within low n high is = leb-true n high (and_parts (nat_le low n) (nat_le n high) is).1

pub nobody_answers : (b : BusState) (line : Line) (form : Form) (gap : ℕ) → AreTerminals b.stations → IsMessage form → replies_due form ≡ []
    → (talk_of b line form gap []).sent.items ≡ controllers_run b line form gap
nobody_answers b line (ToTerminal address subaddress words) gap terminals is none = absurd cc
nobody_answers b line (FromTerminal address subaddress count) gap terminals is none = absurd cc
nobody_answers b line (Between sender sender_subaddress receiver receiver_subaddress count) gap terminals is none = absurd cc
nobody_answers b line (Mode address subaddress code) gap terminals is none = absurd cc
nobody_answers b line (ModeFrom address subaddress code) gap terminals is none = absurd cc
nobody_answers b line (ModeTo address subaddress code word) gap terminals is none = absurd cc
nobody_answers b line (ToAll subaddress words) gap terminals is none =
    let n = length words.items in
    let sub : subaddress ≤ 30 = within 1 subaddress 30 (head_met (is_subaddress subaddress) (is_count n) Subaddress CountOrCode is.lawful) in
    let count : n ≤ 32 = within 1 n 32 (second_met (is_subaddress subaddress) (is_count n) Subaddress CountOrCode is.lawful) in
    let low : subaddress ≤ 31 = omega arith in
    alone b line (ToAll subaddress words) gap (receive_command all_terminals subaddress n) words.items refl
    (command-fits 31 false subaddress (count_field n) (omega arith) low (field-fits n))
    (address_of-command_word 31 false subaddress (count_field n) low (field-fits n)) is.words count terminals
nobody_answers b line (BetweenAll sender sender_subaddress receiver_subaddress count) gap terminals is none = absurd cc
nobody_answers b line (ModeAll subaddress code) gap terminals is none =
    let small : code ≤ 15 = leb-true code 15 (head_met (is_code_alone code) (is_no_word None) CountOrCode ModeWord is.lawful) in
    let low : code ≤ 31 = omega arith in
    alone b line (ModeAll subaddress code) gap (mode_command all_terminals true subaddress code) [] refl
    (command-fits 31 true (mode_subaddress subaddress) code (omega arith) (subaddress-fits subaddress) low)
    (address_of-command_word 31 true (mode_subaddress subaddress) code (subaddress-fits subaddress) low) tt (omega arith) terminals
nobody_answers b line (ModeAllTo subaddress code word) gap terminals is none =
    let low : code ≤ 31 = leb-true code 31 (and_parts (nat_le code 31) (data_word_count false code == 1) (head_met (is_code_to code) (is_one_word (Some (word ∷ []))) CountOrCode ModeWord is.lawful)).0 in
    alone b line (ModeAllTo subaddress code word) gap (mode_command all_terminals false subaddress code) (word ∷ []) refl
    (command-fits 31 false (mode_subaddress subaddress) code (omega arith) (subaddress-fits subaddress) low)
    (address_of-command_word 31 false (mode_subaddress subaddress) code (subaddress-fits subaddress) low) is.words (omega arith) terminals
