-- The parts of a lawful message are read back.
use Rattle.std.proofs.Common.{◌≡◌, ℕ, ◌%◌, ◌≤◌, List, length, refl, ap, sym, ◌∙◌, arith}
use Rattle.std.specs.Prelude.{Bool, true, false, ◌&&◌, not, nat_le, Option, Some, None, Ok, Err, ◌==◌, ◌↔◌, if◌then◌else◌, unwrap_or, option_map}
use Rattle.std.proofs.lemmas.Bool.{leb-true}
use Rattle.mil_mode.specs.Table.{data_word_count}
use Rattle.mil_word.specs.Fields.{address_of, sub_of, code_of, count_of}
use Rattle.mil_message.specs.declared.drafts.ModeSubaddress.{ModeSubaddress}
use Rattle.mil_message.specs.declared.drafts.ModeSubaddress.TheVariants.{Zero, ThirtyOne}
use Rattle.mil_message.specs.declared.faults.BadMessage.{BadMessage}
use Rattle.mil_message.specs.declared.faults.BadMessage.TheVariants.{Address, Subaddress, CountOrCode, SameEnds, ModeWord}
use Rattle.mil_message.specs.declared.forms.Form.{Form}
use Rattle.mil_message.specs.declared.forms.Form.TheVariants.{ToTerminal, FromTerminal, Between, Mode, ModeFrom, ModeTo, ToAll, BetweenAll, ModeAll, ModeAllTo}
use Rattle.mil_message.specs.Forms.{command_word, count_field, mode_subaddress, form_number, first_command, second_command, data_words}
use Rattle.mil_message.specs.Parts.{Parts, parts_of, request_at}
use Rattle.mil_message.specs.declared.drafts.Draft.{Draft}
use Rattle.mil_message.specs.Request.{Request, request_of}
use Rattle.mil_message.proofs.Checked.{head_met, second_met, middle_met, third_met, four_met, checked-request_for}
use Rattle.mil_message.specs.Rules.{IsLawful, request_for, checked, is_count, is_subaddress, is_address, is_code_alone, is_code_from, is_code_to}

pub address_of-command_word : (address : ℕ) (transmit : Bool) (subaddress field : ℕ) → subaddress ≤ 31 → field ≤ 31 → address_of (command_word address transmit subaddress field) ≡ address
address_of-command_word address true subaddress field small fits = omega arith
address_of-command_word address false subaddress field small fits = omega arith

pub sub_of-command_word : (address : ℕ) (transmit : Bool) (subaddress field : ℕ) → subaddress ≤ 31 → field ≤ 31 → sub_of (command_word address transmit subaddress field) ≡ subaddress
sub_of-command_word address true subaddress field small fits = omega arith
sub_of-command_word address false subaddress field small fits = omega arith

pub code_of-command_word : (address : ℕ) (transmit : Bool) (subaddress field : ℕ) → field ≤ 31 → code_of (command_word address transmit subaddress field) ≡ field
code_of-command_word address true subaddress field fits = omega arith
code_of-command_word address false subaddress field fits = omega arith

field_fits : (count : ℕ) → count % 32 ≤ 31
field_fits count = omega arith

count_back : (count : ℕ) → 1 ≤ count → count ≤ 32 → (if count % 32 == 0 then 32 else count % 32) ≡ count
count_back count low high = grind arith

same_count : (field count : ℕ) → field ≡ count % 32 → 1 ≤ count → count ≤ 32 → (if field == 0 then 32 else field) ≡ count
same_count field count is low high = rw is (count_back count low high)

-- a data word count is read back
pub count_of-command_word : (address : ℕ) (transmit : Bool) (subaddress count : ℕ) → 1 ≤ count → count ≤ 32
    → count_of (command_word address transmit subaddress (count_field count)) ≡ count
count_of-command_word address transmit subaddress count low high =
    same_count _ count (code_of-command_word address transmit subaddress (count_field count) (field_fits count)) low high

both_hold : (a b : Bool) → (a && b) ≡ true → (a ≡ true) × (b ≡ true)
both_hold true b is = (refl, is)
both_hold false b is = cc

below : (m n : ℕ) → nat_le m n ≡ true → m ≤ n
below m n is = leb-true m n is

in_range : (low n high : ℕ) → (nat_le low n && nat_le n high) ≡ true → (low ≤ n) × (n ≤ high)
in_range low n high is =
    let both = both_hold (nat_le low n) (nat_le n high) is in
    (below low n both.0, below n high both.1)

from_range : (n : ℕ) → is_code_from n ≡ true → n ≤ 31
from_range n is = below n 31 (both_hold (nat_le n 31) (data_word_count true n == 1) is).0

to_range : (n : ℕ) → is_code_to n ≡ true → n ≤ 31
to_range n is = below n 31 (both_hold (nat_le n 31) (data_word_count false n == 1) is).0

alone_range : (n : ℕ) → is_code_alone n ≡ true → n ≤ 31
alone_range n is = let small = below n 15 is in omega arith

mode_subaddress_back : (field : ℕ) (subaddress : ModeSubaddress) → field ≡ mode_subaddress subaddress → (if field == 0 then Zero else ThirtyOne) ≡ subaddress
mode_subaddress_back field Zero is = rw is refl
mode_subaddress_back field ThirtyOne is = rw is refl

mode_subaddress_fits : (subaddress : ModeSubaddress) → mode_subaddress subaddress ≤ 31
mode_subaddress_fits Zero = omega arith
mode_subaddress_fits ThirtyOne = omega arith

-- what a command to receive or transmit reads back as
record Reads (command address subaddress count : ℕ) : Type 0 where
  pub address_is : address_of command ≡ address
  pub subaddress_is : sub_of command ≡ subaddress
  pub count_is : count_of command ≡ count

reads : (address : ℕ) (transmit : Bool) (subaddress count : ℕ) → is_subaddress subaddress ≡ true → is_count count ≡ true
    → Reads (command_word address transmit subaddress (count_field count)) address subaddress count
reads address transmit subaddress count sub_in count_in =
    let sub_range = in_range 1 subaddress 30 sub_in in
    let range = in_range 1 count 32 count_in in
    let small : subaddress ≤ 31 = omega arith in
    let fits = field_fits count in
    record {
      address_is = address_of-command_word address transmit subaddress (count_field count) small fits;
      subaddress_is = sub_of-command_word address transmit subaddress (count_field count) small fits;
      count_is = count_of-command_word address transmit subaddress count range.0 range.1;
    }

-- what a mode command reads back as
record ReadsMode (command address : ℕ) (subaddress : ModeSubaddress) (code : ℕ) : Type 0 where
  pub address_is : address_of command ≡ address
  pub subaddress_is : (if sub_of command == 0 then Zero else ThirtyOne) ≡ subaddress
  pub code_is : code_of command ≡ code

reads_mode : (address : ℕ) (transmit : Bool) (subaddress : ModeSubaddress) (code : ℕ) → code ≤ 31
    → ReadsMode (command_word address transmit (mode_subaddress subaddress) code) address subaddress code
reads_mode address transmit subaddress code fits =
    let small = mode_subaddress_fits subaddress in
    record {
      address_is = address_of-command_word address transmit (mode_subaddress subaddress) code small fits;
      subaddress_is = mode_subaddress_back _ subaddress (sub_of-command_word address transmit (mode_subaddress subaddress) code small fits);
      code_is = code_of-command_word address transmit (mode_subaddress subaddress) code fits;
    }

pub read_back : (form : Form) → IsLawful form → request_at (parts_of form) ≡ Some (request_for form)
read_back (ToTerminal address subaddress words) lawful =
    let n = length words.items in
    let sub_in = middle_met (is_address address) (is_subaddress subaddress) (is_count n) Address Subaddress CountOrCode lawful in
    let count_in = third_met (is_address address) (is_subaddress subaddress) (is_count n) Address Subaddress CountOrCode lawful in
    let r = reads address false subaddress n sub_in count_in in
    cc (r.address_is, r.subaddress_is)
read_back (FromTerminal address subaddress count) lawful =
    let sub_in = middle_met (is_address address) (is_subaddress subaddress) (is_count count) Address Subaddress CountOrCode lawful in
    let count_in = third_met (is_address address) (is_subaddress subaddress) (is_count count) Address Subaddress CountOrCode lawful in
    let r = reads address true subaddress count sub_in count_in in
    cc (r.address_is, r.subaddress_is, r.count_is)
read_back (Between sender sender_subaddress receiver receiver_subaddress count) lawful =
    let met = four_met (is_address sender && is_address receiver) (is_subaddress sender_subaddress && is_subaddress receiver_subaddress) (is_count count) (not (sender == receiver)) Address Subaddress CountOrCode SameEnds lawful in
    let subs = both_hold (is_subaddress sender_subaddress) (is_subaddress receiver_subaddress) met.0 in
    let r = reads receiver false receiver_subaddress count subs.1 met.1 in
    let t = reads sender true sender_subaddress count subs.0 met.1 in
    cc (r.address_is, r.subaddress_is, r.count_is, t.address_is, t.subaddress_is)
read_back (Mode address subaddress code) lawful =
    let code_in = middle_met (is_address address) (is_code_alone code) true Address CountOrCode ModeWord lawful in
    let r = reads_mode address true subaddress code (alone_range code code_in) in
    cc (r.address_is, r.subaddress_is, r.code_is)
read_back (ModeFrom address subaddress code) lawful =
    let code_in = middle_met (is_address address) (is_code_from code) true Address CountOrCode ModeWord lawful in
    let r = reads_mode address true subaddress code (from_range code code_in) in
    cc (r.address_is, r.subaddress_is, r.code_is)
read_back (ModeTo address subaddress code word) lawful =
    let code_in = middle_met (is_address address) (is_code_to code) true Address CountOrCode ModeWord lawful in
    let r = reads_mode address false subaddress code (to_range code code_in) in
    cc (r.address_is, r.subaddress_is, r.code_is)
read_back (ToAll subaddress words) lawful =
    let n = length words.items in
    let sub_in = head_met (is_subaddress subaddress) (is_count n) Subaddress CountOrCode lawful in
    let count_in = second_met (is_subaddress subaddress) (is_count n) Subaddress CountOrCode lawful in
    let r = reads 31 false subaddress n sub_in count_in in
    cc r.subaddress_is
read_back (BetweenAll sender sender_subaddress receiver_subaddress count) lawful =
    let subs_in = middle_met (is_address sender) (is_subaddress sender_subaddress && is_subaddress receiver_subaddress) (is_count count) Address Subaddress CountOrCode lawful in
    let count_in = third_met (is_address sender) (is_subaddress sender_subaddress && is_subaddress receiver_subaddress) (is_count count) Address Subaddress CountOrCode lawful in
    let subs = both_hold (is_subaddress sender_subaddress) (is_subaddress receiver_subaddress) subs_in in
    let r = reads 31 false receiver_subaddress count subs.1 count_in in
    let t = reads sender true sender_subaddress count subs.0 count_in in
    cc (r.subaddress_is, r.count_is, t.address_is, t.subaddress_is)
read_back (ModeAll subaddress code) lawful =
    let code_in = head_met (is_code_alone code) true CountOrCode ModeWord lawful in
    let r = reads_mode 31 true subaddress code (alone_range code code_in) in
    cc (r.subaddress_is, r.code_is)
read_back (ModeAllTo subaddress code word) lawful =
    let code_in = head_met (is_code_to code) true CountOrCode ModeWord lawful in
    let r = reads_mode 31 false subaddress code (to_range code code_in) in
    cc (r.subaddress_is, r.code_is)

-- the draft that has the parts of a lawful message asks for it
pub asked_back : (form : Form) (n first second : ℕ) (words : List ℕ) (answer : Option Draft) (draft : Draft) → IsLawful form
    → n ≡ form_number form → first ≡ first_command form → second ≡ unwrap_or (second_command form) 0 → words ≡ data_words form
    → option_map request_of answer ≡ request_at (record { number = n; first = first; second = second; words = words }) → answer ≡ Some draft
    → request_of draft ≡ request_for form
asked_back form n first second words answer draft lawful is_number is_first is_second are_words at is =
    let there : request_at (record { number = n; first = first; second = second; words = words }) ≡ Some (request_for form) = rw (is_number, is_first, is_second, are_words) (read_back form lawful) in
    let found : Some (request_of draft) ≡ Some (request_for form) = sym (ap (option_map request_of) is) ∙ (at ∙ there) in
    cc

-- the answer is the one lawful message with these parts, if there is one
abbrev pub Answers : Parts → Option Form → Type 0
Answers p answer = (form : Form) → (answer ≡ Some form) ↔ (IsLawful form × (parts_of form ≡ p))

asked_for : (p : Parts) (form : Form) → IsLawful form → parts_of form ≡ p → request_at p ≡ Some (request_for form)
asked_for p form lawful same = ap request_at (sym same) ∙ read_back form lawful

-- what the one request comes to
found_is : (p : Parts) (request : Request) (form : Form) → Some request ≡ request_at p → IsLawful form → parts_of form ≡ p → checked request ≡ Ok form
found_is p request form at lawful same =
    let there = asked_for p form lawful same in
    let asked : request ≡ request_for form = cc in
    ap checked asked ∙ checked-request_for form lawful

pub is_refused : (p : Parts) (request : Request) (fault : BadMessage) → Some request ≡ request_at p → Err fault ≡ checked request → Answers p None
is_refused p request fault at is form = (λ e. cc, λ both. let there = found_is p request form at both.0 both.1 in cc)
