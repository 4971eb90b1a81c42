-- The tokens of printed messages.
use Rattle.std.proofs.Common.{◌≡◌, ℕ, ◌<◌, ◌≤◌, ◌^◌, Bool, true, false, [], ◌∷◌, length, None, refl, arith}
use Rattle.std.specs.Prelude.{codes, decimal, nat_le, ◌&&◌, ◌==◌, not}
use Rattle.std.proofs.lemmas.Bool.{leb-true}
use Rattle.mil_word.specs.declared.Line.{Line}
use Rattle.mil_word.specs.declared.Line.TheVariants.{A, B}
use Rattle.mil_message.specs.declared.drafts.ModeSubaddress.{ModeSubaddress}
use Rattle.mil_message.specs.declared.drafts.ModeSubaddress.TheVariants.{Zero, ThirtyOne}
use Rattle.mil_message.specs.declared.faults.BadMessage.{BadMessage}
use Rattle.mil_message.specs.declared.faults.BadMessage.TheVariants.{Address, Subaddress, CountOrCode, SameEnds, ModeWord}
use Rattle.mil_message.specs.declared.forms.Form.{Form}
use Rattle.mil_message.specs.declared.forms.Form.TheVariants.{ToTerminal, FromTerminal, Between, Mode, ModeFrom, ModeTo, ToAll, BetweenAll, ModeAll, ModeAllTo}
use Rattle.mil_message.specs.Rules.{IsLawful, first_fault, is_address, is_subaddress, is_count, is_code_alone, is_code_from, is_code_to}
use Rattle.mil_message.proofs.Checked.{head_met, second_met, middle_met, third_met, four_met}
use Rattle.frame_text.specs.Reading.{Tokens, same_bytes}
use Rattle.frame_text.specs.Chains.{IsReadable}
use Rattle.mil_word.specs.Printing.{line_text}
use Rattle.frame_text.specs.PrintedMessages.{mode_text, mode_all_text, message_text, line_and_message_text, send_text}
use Rattle.frame_text.proofs.Spelling.{Spells, brackets_then, brackets_spell, number_spells, word_spells, spaced_spells}

abbrev pub Small : ℕ → Type 0
Small n = n < 10 ^ 7

both_hold : (a b : Bool) → (a && b) ≡ true → (a ≡ true) × (b ≡ true)
both_hold true b e = (refl, e)
both_hold false b e = absurd (cc)

below : (n k : ℕ) → k ≤ 32 → nat_le n k ≡ true → Small n
below n k h e = let l = leb-true n k e in omega (arith, h, l)

address_small : (n : ℕ) → is_address n ≡ true → Small n
address_small n e = below n 30 (omega arith) e

sub_small : (n : ℕ) → is_subaddress n ≡ true → Small n
sub_small n e = below n 30 (omega arith) (both_hold (nat_le 1 n) (nat_le n 30) e).1

count_small : (n : ℕ) → is_count n ≡ true → Small n
count_small n e = below n 32 (omega arith) (both_hold (nat_le 1 n) (nat_le n 32) e).1

few : (n : ℕ) → is_count n ≡ true → n ≤ 33
few n e = let l = leb-true n 32 (both_hold (nat_le 1 n) (nat_le n 32) e).1 in omega (arith, l)

alone_small : (n : ℕ) → is_code_alone n ≡ true → Small n
alone_small n e = below n 15 (omega arith) e

pub in_table : (n : ℕ) (b : Bool) → (nat_le n 31 && b) ≡ true → n < 32
in_table n b e = let l = leb-true n 31 (both_hold (nat_le n 31) b e).0 in omega (arith, l)

-- the tokens of a message, in front of others
abbrev pub message_then : Form → Tokens → Tokens
message_then (ToTerminal address sub words) ts = codes "rx" ∷ decimal address ∷ decimal sub ∷ brackets_then words.items ts
message_then (FromTerminal address sub count) ts = codes "tx" ∷ decimal address ∷ decimal sub ∷ decimal count ∷ ts
message_then (Between sender from receiver to count) ts = codes "rt" ∷ decimal sender ∷ decimal from ∷ decimal receiver ∷ decimal to ∷ decimal count ∷ ts
message_then (Mode address sub code) ts = mode_text sub ∷ decimal address ∷ decimal code ∷ ts
message_then (ModeFrom address sub code) ts = mode_text sub ∷ decimal address ∷ decimal code ∷ ts
message_then (ModeTo address sub code word) ts = mode_text sub ∷ decimal address ∷ decimal code ∷ brackets_then (word ∷ []) ts
message_then (ToAll sub words) ts = codes "brx" ∷ decimal sub ∷ brackets_then words.items ts
message_then (BetweenAll sender from to count) ts = codes "brt" ∷ decimal sender ∷ decimal from ∷ decimal to ∷ decimal count ∷ ts
message_then (ModeAll sub code) ts = mode_all_text sub ∷ decimal code ∷ ts
message_then (ModeAllTo sub code word) ts = mode_all_text sub ∷ decimal code ∷ brackets_then (word ∷ []) ts

abbrev pub send_then : Line → Form → Tokens → Tokens
send_then line m ts = codes "send" ∷ line_text line ∷ message_then m ts

-- what may stand behind a frame
abbrev pub MayFollow : Tokens → Type 0
MayFollow [] = Unit {0}
MayFollow (w ∷ ts) = (same_bytes w (codes "[") ≡ false) × (same_bytes w (codes "else") ≡ false)

small_spells : (n : ℕ) → Small n → Spells (decimal n) (λ ts. decimal n ∷ ts)
small_spells n h = number_spells n (omega (arith, h))

mode_spells : (s : ModeSubaddress) → Spells (mode_text s) (λ ts. mode_text s ∷ ts)
mode_spells Zero = word_spells (codes "mode0") (omega arith) (refl, (refl, (refl, (refl, (refl, tt)))))
mode_spells ThirtyOne = word_spells (codes "mode") (omega arith) (refl, (refl, (refl, (refl, tt))))

mode_all_spells : (s : ModeSubaddress) → Spells (mode_all_text s) (λ ts. mode_all_text s ∷ ts)
mode_all_spells Zero = word_spells (codes "bmode0") (omega arith) (refl, (refl, (refl, (refl, (refl, (refl, tt))))))
mode_all_spells ThirtyOne = word_spells (codes "bmode") (omega arith) (refl, (refl, (refl, (refl, (refl, tt)))))

pub head_three : (a b c : Bool) (x y z : BadMessage) → first_fault ((a, x) ∷ (b, y) ∷ (c, z) ∷ []) ≡ None → a ≡ true
head_three true b c x y z met = refl
head_three false b c x y z met = absurd (cc)

head_four : (a b c d : Bool) (x y z w : BadMessage) → first_fault ((a, x) ∷ (b, y) ∷ (c, z) ∷ (d, w) ∷ []) ≡ None → a ≡ true
head_four true b c d x y z w met = refl
head_four false b c d x y z w met = absurd (cc)

-- the numbers of a message in their ranges
abbrev pub HasSmall : Form → Type 0
HasSmall (ToTerminal address sub words) = Small address × Small sub × (length words.items ≤ 33)
HasSmall (FromTerminal address sub count) = Small address × Small sub × Small count
HasSmall (Between sender from receiver to count) = Small sender × Small from × Small receiver × Small to × Small count
HasSmall (Mode address sub code) = Small address × Small code
HasSmall (ModeFrom address sub code) = Small address × Small code
HasSmall (ModeTo address sub code word) = Small address × Small code
HasSmall (ToAll sub words) = Small sub × (length words.items ≤ 33)
HasSmall (BetweenAll sender from to count) = Small sender × Small from × Small to × Small count
HasSmall (ModeAll sub code) = Small code
HasSmall (ModeAllTo sub code word) = Small code

table_small : (n : ℕ) → n < 32 → Small n
table_small n h = omega (arith, h)

pub has_small : (m : Form) → IsLawful m → HasSmall m
has_small (ToTerminal a s ws) h =
    let p = is_address a in let q = is_subaddress s in let r = is_count (length ws.items) in
    (address_small a (head_three p q r Address Subaddress CountOrCode h), sub_small s (middle_met p q r Address Subaddress CountOrCode h), few (length ws.items) (third_met p q r Address Subaddress CountOrCode h))
has_small (FromTerminal a s n) h =
    let p = is_address a in let q = is_subaddress s in let r = is_count n in
    (address_small a (head_three p q r Address Subaddress CountOrCode h), sub_small s (middle_met p q r Address Subaddress CountOrCode h), count_small n (third_met p q r Address Subaddress CountOrCode h))
has_small (Between a s b t n) h =
    let p = is_address a && is_address b in let q = is_subaddress s && is_subaddress t in let r = is_count n in let z = not (a == b) in
    let m = four_met p q r z Address Subaddress CountOrCode SameEnds h in
    let ab = both_hold (is_address a) (is_address b) (head_four p q r z Address Subaddress CountOrCode SameEnds h) in
    let st = both_hold (is_subaddress s) (is_subaddress t) m.0 in
    (address_small a ab.0, sub_small s st.0, address_small b ab.1, sub_small t st.1, count_small n m.1)
has_small (Mode a s c) h =
    (address_small a (head_three (is_address a) (is_code_alone c) true Address CountOrCode ModeWord h), alone_small c (middle_met (is_address a) (is_code_alone c) true Address CountOrCode ModeWord h))
has_small (ModeFrom a s c) h =
    (address_small a (head_three (is_address a) (is_code_from c) true Address CountOrCode ModeWord h), table_small c (in_table c _ (middle_met (is_address a) (is_code_from c) true Address CountOrCode ModeWord h)))
has_small (ModeTo a s c w) h =
    (address_small a (head_three (is_address a) (is_code_to c) true Address CountOrCode ModeWord h), table_small c (in_table c _ (middle_met (is_address a) (is_code_to c) true Address CountOrCode ModeWord h)))
has_small (ToAll s ws) h =
    (sub_small s (head_met (is_subaddress s) (is_count (length ws.items)) Subaddress CountOrCode h), few (length ws.items) (second_met (is_subaddress s) (is_count (length ws.items)) Subaddress CountOrCode h))
has_small (BetweenAll a s t n) h =
    let p = is_address a in let q = is_subaddress s && is_subaddress t in let r = is_count n in
    let st = both_hold (is_subaddress s) (is_subaddress t) (middle_met p q r Address Subaddress CountOrCode h) in
    (address_small a (head_three p q r Address Subaddress CountOrCode h), sub_small s st.0, sub_small t st.1, count_small n (third_met p q r Address Subaddress CountOrCode h))
has_small (ModeAll s c) h = alone_small c (head_met (is_code_alone c) true CountOrCode ModeWord h)
has_small (ModeAllTo s c w) h = table_small c (in_table c _ (head_met (is_code_to c) true CountOrCode ModeWord h))

message_spells : (m : Form) → IsReadable m → HasSmall m → Spells (message_text m) (message_then m)
message_spells (ToTerminal a s ws) h r = spaced_spells (word_spells (codes "rx") (omega arith) (refl, (refl, tt))) (spaced_spells (small_spells a r.0) (spaced_spells (small_spells s r.1) (brackets_spell ws.items h.1)))
message_spells (FromTerminal a s n) h r = spaced_spells (word_spells (codes "tx") (omega arith) (refl, (refl, tt))) (spaced_spells (small_spells a r.0) (spaced_spells (small_spells s r.1) (small_spells n r.2)))
message_spells (Between a s b t n) h r = spaced_spells (word_spells (codes "rt") (omega arith) (refl, (refl, tt))) (spaced_spells (small_spells a r.0) (spaced_spells (small_spells s r.1) (spaced_spells (small_spells b r.2) (spaced_spells (small_spells t r.3) (small_spells n r.4)))))
message_spells (Mode a s c) h r = spaced_spells (mode_spells s) (spaced_spells (small_spells a r.0) (small_spells c r.1))
message_spells (ModeFrom a s c) h r = spaced_spells (mode_spells s) (spaced_spells (small_spells a r.0) (small_spells c r.1))
message_spells (ModeTo a s c w) h r = spaced_spells (mode_spells s) (spaced_spells (small_spells a r.0) (spaced_spells (small_spells c r.1) (brackets_spell (w ∷ []) h.1)))
message_spells (ToAll s ws) h r = spaced_spells (word_spells (codes "brx") (omega arith) (refl, (refl, (refl, tt)))) (spaced_spells (small_spells s r.0) (brackets_spell ws.items h.1))
message_spells (BetweenAll a s t n) h r = spaced_spells (word_spells (codes "brt") (omega arith) (refl, (refl, (refl, tt)))) (spaced_spells (small_spells a r.0) (spaced_spells (small_spells s r.1) (spaced_spells (small_spells t r.2) (small_spells n r.3))))
message_spells (ModeAll s c) h r = spaced_spells (mode_all_spells s) (small_spells c r)
message_spells (ModeAllTo s c w) h r = spaced_spells (mode_all_spells s) (spaced_spells (small_spells c r) (brackets_spell (w ∷ []) h.1))

line_spells_word : (line : Line) → Spells (line_text line) (λ ts. line_text line ∷ ts)
line_spells_word A = word_spells (codes "A") (omega arith) (refl, tt)
line_spells_word B = word_spells (codes "B") (omega arith) (refl, tt)

pub line_and_message_spells : (line : Line) (m : Form) → IsReadable m → Spells (line_and_message_text line m) (λ ts. line_text line ∷ message_then m ts)
line_and_message_spells line m h = spaced_spells (line_spells_word line) (message_spells m h (has_small m h.0))

pub send_spells : (line : Line) (m : Form) → IsReadable m → Spells (send_text line m) (send_then line m)
send_spells line m h = spaced_spells (word_spells (codes "send") (omega arith) (refl, (refl, (refl, (refl, tt))))) (line_and_message_spells line m h)
