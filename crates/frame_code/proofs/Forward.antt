-- Reading what was written gives it back.
use Rattle.std.proofs.Common.{◌≡◌, ℕ, zero, suc, ◌+◌, ◌*◌, ◌/◌, ◌%◌, ◌^◌, ◌≤◌, ◌==◌, Bool, true, false, List, [], ◌∷◌, ◌++◌, length, Ok, Some, None, refl, sym, ap, ap₂, ◌∙◌, arith, append_assoc}
use Rattle.std.specs.Prelude.{IsTrue, not, ◌&&◌, ◌||◌, nat_le, nat_lt, if◌then◌else◌, option_map, unwrap_or}
use Rattle.std.specs.List.{flat_map}
use Rattle.std.proofs.lemmas.List.{append-nil}
use Rattle.std.proofs.lemmas.Bool.Decides.{nat_tests}
use Rattle.mil_mode.specs.Table.{data_word_count}
use Rattle.mil_word.specs.declared.Line.{Line}
use Rattle.mil_word.specs.declared.Line.TheVariants.{A, B}
use Rattle.mil_word.specs.Fields.{address_of, is_transmit, sub_of, code_of, count_of, is_mode}
use Rattle.mil_message.specs.declared.drafts.ModeSubaddress.{ModeSubaddress}
use Rattle.mil_message.specs.declared.drafts.ModeSubaddress.TheVariants.{Zero, ThirtyOne}
use Rattle.mil_message.specs.declared.faults.BadMessage.{BadMessage}
use Rattle.mil_message.specs.declared.messages.Message.{Message}
use Rattle.mil_message.specs.declared.forms.Form.TheVariants.{ToTerminal, FromTerminal, Between, Mode, ModeFrom, ModeTo, ToAll, BetweenAll, ModeAll, ModeAllTo}
use Rattle.mil_message.specs.declared.outcome_test.OutcomeTest.{OutcomeTest}
use Rattle.mil_message.specs.declared.outcome_test.OutcomeTest.TheVariants.{Failed, Silent, Bit}
use Rattle.mil_status.specs.declared.bit.StatusBit.TheVariants.{MessageError, Instrumentation, ServiceRequest, Broadcast, Busy, Subsystem, Control, Terminal}
use Rattle.mil_message.specs.Forms.{command_word, count_field, mode_subaddress, form_number, first_command, second_command, data_words}
use Rattle.mil_message.specs.Rules.{is_address, is_subaddress, is_count, is_code_alone, is_code_from, is_code_to, first_fault, request_for, form_of, IsLawful}
use Rattle.mil_message.specs.Parts.{parts_of, request_at}
use Rattle.mil_message.proofs.ReadBack.{read_back}
use Rattle.frame_code.specs.declared.Op.{Op}
use Rattle.frame_code.specs.declared.Op.TheVariants.{Halt, Send, Alt, SetGap, Loop, Again, Leave, Jump, Test, JumpFalse, Call, Return, Begin, Pace}
use Rattle.frame_code.specs.Table.{Code}
use Rattle.frame_code.specs.Ranges as ranges
use Rattle.frame_code.specs.Fields.{receives, transmits, calls_one, first_fits, sends_for, second_fits, words_due}
use Rattle.frame_code.specs.Bytes.{version_of, version_for, mark, two_bytes, operation_number, number_of_test, operand_of, operation_bytes, line_number, message_bytes, header_bytes, image_bytes, AreLawful}
use Rattle.frame_code.specs.Reading.{two_at, mark_at, header_at, test_of, operation_of, known, operation_at, many, line_at, message_with, message_words_at, message_at, image_of}
use Rattle.frame_code.proofs.Lawful.{both}
use Rattle.frame_code.proofs.Images.{image_reads, equal_true, words_read}
use Rattle.frame_code.proofs.Many.{many_none, many_cons}
use Rattle.frame_code.proofs.Versions.{number_small, some_version, few_versions}

-- rules without a fault are met
un2 : (a b : Bool) (x y : BadMessage) → first_fault ((a, x) ∷ (b, y) ∷ []) ≡ None → (a ≡ true) × (b ≡ true)
un2 true true x y e = (refl, refl)
un2 true false x y e = cc
un2 false b x y e = cc

un3 : (a b c : Bool) (x y z : BadMessage) → first_fault ((a, x) ∷ (b, y) ∷ (c, z) ∷ []) ≡ None → (a ≡ true) × (b ≡ true) × (c ≡ true)
un3 true b c x y z e = let p = un2 b c y z e in (refl, p.0, p.1)
un3 false b c x y z e = cc

un4 : (a b c d : Bool) (x y z w : BadMessage) → first_fault ((a, x) ∷ (b, y) ∷ (c, z) ∷ (d, w) ∷ []) ≡ None → (a ≡ true) × (b ≡ true) × (c ≡ true) × (d ≡ true)
un4 true b c d x y z w e = let p = un3 b c d y z w e in (refl, p.0, p.1, p.2)
un4 false b c d x y z w e = cc

both_true : (a b : Bool) → a ≡ true → b ≡ true → (a && b) ≡ true
both_true true b p q = q
both_true false b p q = cc

-- the fields of a command word
record Word (c a : ℕ) (t : Bool) (s k : ℕ) : Type 0 where
  address : address_of c ≡ a
  transmit : is_transmit c ≡ t
  sub : sub_of c ≡ s
  code : code_of c ≡ k

not_one : (n : ℕ) → n ≡ 0 → (n == 1) ≡ false
not_one n e = grind (arith, nat_tests)

word : (a : ℕ) (t : Bool) (s k : ℕ) → s ≤ 31 → k ≤ 31 → Word (command_word a t s k) a t s k
word a true s k h g =
    let c = command_word a true s k in
    record { address = omega arith; transmit = equal_true (c / 2 ^ 10 % 2) 1 (omega arith); sub = omega arith; code = omega arith }
word a false s k h g =
    let c = command_word a false s k in
    record { address = omega arith; transmit = not_one (c / 2 ^ 10 % 2) (omega arith); sub = omega arith; code = omega arith }

sub_small : (s : ℕ) → is_subaddress s ≡ true → s ≤ 31
sub_small s e = grind (arith, nat_tests)

not_mode : (s : ℕ) → is_subaddress s ≡ true → not (s == 0 || s == 31) ≡ true
not_mode s e = grind (arith, nat_tests)

mode_small : (s : ModeSubaddress) → mode_subaddress s ≤ 31
mode_small Zero = omega arith
mode_small ThirtyOne = omega arith

le_of : (a b : ℕ) → nat_le a b ≡ true → a ≤ b
le_of a b e = grind (arith, nat_tests)

le_true : (a b : ℕ) → a ≤ b → nat_le a b ≡ true
le_true a b h = grind (arith, nat_tests)

field_small : (n : ℕ) → count_field n ≤ 31
field_small n = omega arith

count_back : (n : ℕ) → is_count n ≡ true → (if count_field n == 0 then 32 else count_field n) ≡ n
count_back n e =
    let p = both (nat_le 1 n) (nat_le n 32) e in
    let low : 1 ≤ n = le_of 1 n p.0 in
    let high : n ≤ 32 = le_of n 32 p.1 in
    grind arith

-- what a command for data words is
record IsData (c a : ℕ) (t : Bool) (n : ℕ) : Type 0 where
  address : address_of c ≡ a
  transmit : is_transmit c ≡ t
  data_at : not (is_mode c) ≡ true
  code : code_of c ≡ count_field n
  count : count_of c ≡ n

data_word : (a : ℕ) (t : Bool) (s n : ℕ) → is_subaddress s ≡ true → is_count n ≡ true → IsData (command_word a t s (count_field n)) a t n
data_word a t s n hs hn =
    let w = word a t s (count_field n) (sub_small s hs) (field_small n) in
    record {
      address = w.address;
      transmit = w.transmit;
      data_at = ap (λ v. not (v == 0 || v == 31)) w.sub ∙ not_mode s hs;
      code = w.code;
      count = ap (λ k. if k == 0 then 32 else k) w.code ∙ count_back n hn;
    }

receives_of : (c a n : ℕ) → IsData c a false n → receives c ≡ true
receives_of c a n d = ap (λ t. not t && not (is_mode c)) d.transmit ∙ d.data_at

transmits_of : (c a n : ℕ) → IsData c a true n → transmits c ≡ true
transmits_of c a n d = ap (λ t. t && not (is_mode c)) d.transmit ∙ d.data_at

-- what a mode command is
record IsMode (c a : ℕ) (t : Bool) (k : ℕ) : Type 0 where
  address : address_of c ≡ a
  transmit : is_transmit c ≡ t
  mode_at : is_mode c ≡ true
  code : code_of c ≡ k

is_mode_at : (s : ModeSubaddress) → (mode_subaddress s == 0 || mode_subaddress s == 31) ≡ true
is_mode_at Zero = refl
is_mode_at ThirtyOne = refl

mode_word : (a : ℕ) (t : Bool) (s : ModeSubaddress) (k : ℕ) → k ≤ 31 → IsMode (command_word a t (mode_subaddress s) k) a t k
mode_word a t s k h =
    let w = word a t (mode_subaddress s) k (mode_small s) h in
    record { address = w.address; transmit = w.transmit; mode_at = ap (λ v. v == 0 || v == 31) w.sub ∙ is_mode_at s; code = w.code }

mode_fits : (c a k : ℕ) (code : ℕ → Bool) → IsMode c a true k → code k ≡ true → (is_transmit c && is_mode c && code (code_of c)) ≡ true
mode_fits c a k code m e = both_true (is_transmit c && is_mode c) (code (code_of c)) (both_true (is_transmit c) (is_mode c) m.transmit m.mode_at) (ap code m.code ∙ e)

mode_fits_to : (c a k : ℕ) (code : ℕ → Bool) → IsMode c a false k → code k ≡ true → (not (is_transmit c) && is_mode c && code (code_of c)) ≡ true
mode_fits_to c a k code m e = both_true (not (is_transmit c) && is_mode c) (code (code_of c)) (both_true (not (is_transmit c)) (is_mode c) (ap not m.transmit) m.mode_at) (ap code m.code ∙ e)

alone_small : (k : ℕ) → is_code_alone k ≡ true → k ≤ 31
alone_small k e = let h = le_of k 15 e in omega arith

from_small : (k : ℕ) → is_code_from k ≡ true → k ≤ 31
from_small k e = le_of k 31 (both (nat_le k 31) (data_word_count true k == 1) e).0

to_small : (k : ℕ) → is_code_to k ≡ true → k ≤ 31
to_small k e = le_of k 31 (both (nat_le k 31) (data_word_count false k == 1) e).0

sends_of : (first c a b n : ℕ) → IsData first a false n → IsData c b true n → is_address b ≡ true → sends_for first c ≡ true
sends_of first c a b n f d h =
    both_true (calls_one c && transmits c) (code_of c == code_of first) (both_true (calls_one c) (transmits c) (ap is_address d.address ∙ h) (transmits_of c b n d))
    (equal_true (code_of c) (code_of first) (d.code ∙ sym f.code))

-- the fields of a message fit
record Fits (m : Message) : Type 0 where
  form : nat_lt (form_number m) 10 ≡ true
  first : first_fits (form_number m) (first_command m) ≡ true
  second : second_fits (form_number m) (first_command m) (unwrap_or (second_command m) 0) ≡ true
  count : length (data_words m) ≡ words_due (form_number m) (first_command m)

apart_fields : (a b x y : ℕ) → a ≡ x → b ≡ y → not (x == y) ≡ true → not (a == b) ≡ true
apart_fields a b x y e f h = ap₂ (λ v w. not (v == w)) e f ∙ h

fits_of : (m : Message) → IsLawful m → Fits m
fits_of (ToTerminal a s ws) l =
    let n = length ws.items in
    let p = un3 (is_address a) (is_subaddress s) (is_count n) _ _ _ l in
    let d = data_word a false s n p.1 p.2 in
    record { form = refl; first = both_true _ _ (ap is_address d.address ∙ p.0) (receives_of _ a n d); second = refl; count = sym d.count }
fits_of (FromTerminal a s n) l =
    let p = un3 (is_address a) (is_subaddress s) (is_count n) _ _ _ l in
    let d = data_word a true s n p.1 p.2 in
    record { form = refl; first = both_true _ _ (ap is_address d.address ∙ p.0) (transmits_of _ a n d); second = refl; count = refl }
fits_of (Between b t a s n) l =
    let p = un4 (is_address b && is_address a) (is_subaddress t && is_subaddress s) (is_count n) (not (b == a)) _ _ _ _ l in
    let q = both (is_address b) (is_address a) p.0 in
    let r = both (is_subaddress t) (is_subaddress s) p.1 in
    let d = data_word a false s n r.1 p.2 in
    let e = data_word b true t n r.0 p.2 in
    record {
      form = refl;
      first = both_true _ _ (ap is_address d.address ∙ q.1) (receives_of _ a n d);
      second = both_true _ _ (sends_of _ _ a b n d e q.0) (apart_fields _ _ b a e.address d.address p.3);
      count = refl;
    }
fits_of (Mode a s k) l =
    let p = un3 (is_address a) (is_code_alone k) true _ _ _ l in
    let d = mode_word a true s k (alone_small k p.1) in
    record { form = refl; first = both_true _ _ (ap is_address d.address ∙ p.0) (mode_fits _ a k is_code_alone d p.1); second = refl; count = refl }
fits_of (ModeFrom a s k) l =
    let p = un3 (is_address a) (is_code_from k) true _ _ _ l in
    let d = mode_word a true s k (from_small k p.1) in
    record { form = refl; first = both_true _ _ (ap is_address d.address ∙ p.0) (mode_fits _ a k is_code_from d p.1); second = refl; count = refl }
fits_of (ModeTo a s k w) l =
    let p = un3 (is_address a) (is_code_to k) true _ _ _ l in
    let d = mode_word a false s k (to_small k p.1) in
    record { form = refl; first = both_true _ _ (ap is_address d.address ∙ p.0) (mode_fits_to _ a k is_code_to d p.1); second = refl; count = refl }
fits_of (ToAll s ws) l =
    let n = length ws.items in
    let p = un2 (is_subaddress s) (is_count n) _ _ l in
    let d = data_word 31 false s n p.0 p.1 in
    record { form = refl; first = both_true _ _ (equal_true _ 31 d.address) (receives_of _ 31 n d); second = refl; count = sym d.count }
fits_of (BetweenAll b t s n) l =
    let p = un3 (is_address b) (is_subaddress t && is_subaddress s) (is_count n) _ _ _ l in
    let r = both (is_subaddress t) (is_subaddress s) p.1 in
    let d = data_word 31 false s n r.1 p.2 in
    let e = data_word b true t n r.0 p.2 in
    record { form = refl; first = both_true _ _ (equal_true _ 31 d.address) (receives_of _ 31 n d); second = sends_of _ _ 31 b n d e p.0; count = refl }
fits_of (ModeAll s k) l =
    let p = un2 (is_code_alone k) true _ _ l in
    let d = mode_word 31 true s k (alone_small k p.0) in
    record { form = refl; first = both_true _ _ (equal_true _ 31 d.address) (mode_fits _ 31 k is_code_alone d p.0); second = refl; count = refl }
fits_of (ModeAllTo s k w) l =
    let p = un2 (is_code_to k) true _ _ l in
    let d = mode_word 31 false s k (to_small k p.0) in
    record { form = refl; first = both_true _ _ (equal_true _ 31 d.address) (mode_fits_to _ 31 k is_code_to d p.0); second = refl; count = refl }

-- the message asked for is the message
again : (m : Message) → form_of (request_for m) ≡ m
again (ToTerminal a s ws) = refl
again (FromTerminal a s n) = refl
again (Between b t a s n) = refl
again (Mode a s k) = refl
again (ModeFrom a s k) = refl
again (ModeTo a s k w) = refl
again (ToAll s ws) = refl
again (BetweenAll b t s n) = refl
again (ModeAll s k) = refl
again (ModeAllTo s k w) = refl

found_of : (m : Message) → IsLawful m → message_with (request_at (parts_of m)) ≡ Some m
found_of m l = ap message_with (read_back m l) ∙ ap Some (again m)

-- numbers, operations, lines and data words
two_back : (n : ℕ) (rest : List ℕ) → two_at (two_bytes n ++ rest) ≡ Ok (n, rest)
unfolding two_at
two_back n rest = let e : n % 256 + 256 * (n / 256) ≡ n = omega arith in ap (λ v. Ok (v, rest)) e

test_found : (t : OutcomeTest) → test_of (number_of_test t) ≡ Some t
test_found Failed = refl
test_found Silent = refl
test_found (Bit MessageError) = refl
test_found (Bit Instrumentation) = refl
test_found (Bit ServiceRequest) = refl
test_found (Bit Broadcast) = refl
test_found (Bit Busy) = refl
test_found (Bit Subsystem) = refl
test_found (Bit Control) = refl
test_found (Bit Terminal) = refl

operation_found : (o : Op) → IsTrue (ranges.in_range o) → operation_of (operation_number o) (operand_of o) ≡ Some o
unfolding operation_of
operation_found Halt h = refl
operation_found (Send m) h = refl
operation_found (Alt m) h = refl
operation_found (SetGap t) h = ap (λ b. if b then Some (SetGap t) else None) h
operation_found (Loop n) h = ap (λ b. if b then Some (Loop n) else None) h
operation_found (Again i) h = refl
operation_found (Leave i) h = refl
operation_found (Jump i) h = refl
operation_found (Test t) h = ap (option_map (λ k. Test k)) (test_found t)
operation_found (JumpFalse i) h = refl
operation_found (Call r) h = ap (λ b. if b then Some (Call r) else None) h
operation_found Return h = refl
operation_found Begin h = refl
operation_found (Pace t) h = ap (λ b. if b then Some (Pace t) else None) h

operation_step : (v : ℕ) (number operand : ℕ) (rest : List ℕ) (o : Op) → nat_lt number (known v) ≡ true → operation_of number operand ≡ Some o → operation_at v (number ∷ 0 ∷ two_bytes operand ++ rest) ≡ Ok (o, rest)
unfolding operation_at
operation_step v number operand rest o h e = rw (h, two_back operand rest, e) refl

operation_back : (v : ℕ) (o : Op) (rest : List ℕ) → IsTrue (ranges.in_range o) → version_of o ≤ v → operation_at v (operation_bytes o ++ rest) ≡ Ok (o, rest)
operation_back v o rest h k = operation_step v (operation_number o) (operand_of o) rest o (number_small v o k) (operation_found o h)

operations_back : (v : ℕ) (os : List Op) (rest : List ℕ) → ranges.AreInRange os → version_for os ≤ v → many (operation_at v) (length os) (flat_map operation_bytes os ++ rest) ≡ Ok (os, rest)
operations_back v [] rest h k = many_none (operation_at v) rest
operations_back v (o ∷ os) rest h k =
    ap (many (operation_at v) (suc (length os))) (append_assoc (operation_bytes o) (flat_map operation_bytes os) rest)
    ∙ many_cons (operation_at v) (length os) (operation_bytes o ++ (flat_map operation_bytes os ++ rest)) (flat_map operation_bytes os ++ rest) rest o os (operation_back v o (flat_map operation_bytes os ++ rest) h.0 (omega arith)) (operations_back v os rest h.1 (omega arith))

words_back : (ws : List ℕ) (rest : List ℕ) → many two_at (length ws) (flat_map two_bytes ws ++ rest) ≡ Ok (ws, rest)
words_back [] rest = many_none two_at rest
words_back (w ∷ ws) rest =
    ap (many two_at (suc (length ws))) (append_assoc (two_bytes w) (flat_map two_bytes ws) rest)
    ∙ many_cons two_at (length ws) (two_bytes w ++ (flat_map two_bytes ws ++ rest)) (flat_map two_bytes ws ++ rest) rest w ws (two_back w (flat_map two_bytes ws ++ rest)) (words_back ws rest)

line_back : (line : Line) (rest : List ℕ) → line_at (line_number line ∷ rest) ≡ Ok (line, rest)
unfolding line_at
line_back A rest = refl
line_back B rest = refl

message_step : (form : ℕ) (line : Line) (first second : ℕ) (tail : List ℕ) → nat_lt form 10 ≡ true → first_fits form first ≡ true → second_fits form first second ≡ true
    → message_at (form ∷ line_number line ∷ two_bytes first ++ (two_bytes second ++ tail)) ≡ message_words_at form line first second tail
unfolding message_at
message_step form line first second tail h f s = rw (h, line_back line (two_bytes first ++ (two_bytes second ++ tail)), two_back first (two_bytes second ++ tail), f, two_back second tail, s) refl

message_back : (line : Line) (m : Message) (rest : List ℕ) → IsLawful m → message_at (message_bytes (line, m) ++ rest) ≡ Ok ((line, m), rest)
message_back line m rest l =
    let f = fits_of m l in
    let p = parts_of m in
    let after_words = flat_map two_bytes p.words ++ rest in
    message_step p.number line p.first p.second (two_bytes (length p.words) ++ after_words) f.form f.first f.second
    ∙ words_read p.number line p.first p.second (two_bytes (length p.words) ++ after_words) after_words (length p.words) p.words rest m (two_back (length p.words) after_words) f.count (words_back p.words rest) (found_of m l)

messages_back : (ms : List (Line × Message)) (rest : List ℕ) → AreLawful ms → many message_at (length ms) (flat_map message_bytes ms ++ rest) ≡ Ok (ms, rest)
messages_back [] rest h = many_none message_at rest
messages_back (m ∷ ms) rest h =
    ap (many message_at (suc (length ms))) (append_assoc (message_bytes m) (flat_map message_bytes ms) rest)
    ∙ many_cons message_at (length ms) (message_bytes m ++ (flat_map message_bytes ms ++ rest)) (flat_map message_bytes ms ++ rest) rest m ms (message_back m.0 m.1 (flat_map message_bytes ms ++ rest) h.0) (messages_back ms rest h.1)

mark_back : (v : ℕ) (rest : List ℕ) → 1 ≤ v → v ≤ 3 → mark_at (mark v ++ rest) ≡ Ok (v, rest)
unfolding mark_at
mark_back zero rest h g = absurd (omega arith)
mark_back (suc zero) rest h g = refl
mark_back (suc (suc zero)) rest h g = refl
mark_back (suc (suc (suc zero))) rest h g = refl
mark_back (suc (suc (suc (suc v)))) rest h g = absurd (omega arith)

header_back : (v : ℕ) (n m : ℕ) (rest : List ℕ) → 1 ≤ v → v ≤ 3 → n ≤ 4096 → m ≤ 1024 → header_at (header_bytes v n m ++ rest) ≡ Ok (v, n, m, rest)
unfolding header_at
header_back v n m rest low high h g = rw (mark_back v (two_bytes n ++ (two_bytes m ++ rest)) low high, two_back n (two_bytes m ++ rest), le_true n 4096 h, two_back m rest, le_true m 1024 g) refl

pub image_back : (code : Code) → ranges.IsImage code → AreLawful code.messages → image_of (image_bytes code) ≡ Ok code
image_back code i l =
    let v = version_for code.operations in
    let n = length code.operations in
    let m = length code.messages in
    let os = flat_map operation_bytes code.operations in
    let ms = flat_map message_bytes code.messages in
    let last : ms ++ [] ≡ ms = simp append-nil in
    let e : image_bytes code ≡ header_bytes v n m ++ (os ++ (ms ++ [])) = append_assoc (header_bytes v n m) os ms ∙ ap (λ z. header_bytes v n m ++ (os ++ z)) (sym last) in
    ap image_of e ∙ image_reads v (header_bytes v n m ++ (os ++ (ms ++ []))) (os ++ (ms ++ [])) (ms ++ []) n m code.operations code.messages (header_back v n m (os ++ (ms ++ [])) (some_version code.operations) (few_versions code.operations) i.operations i.messages) (operations_back v code.operations (ms ++ []) i.operands (omega arith)) (messages_back code.messages [] l) (le_true v v (omega arith))
