-- The fields of command words, and what they announce.
use Rattle.std.proofs.Common.{◌≡◌, ℕ, zero, suc, ◌-◌, ◌/◌, ◌%◌, ◌^◌, ◌<◌, ◌≤◌, ◌==◌, Bool, true, false, ◌&&◌, ◌||◌, List, take, length, refl, ap, ◌∙◌, arith, length-append, length-take, inl, inr}
use Rattle.std.specs.Prelude.{not, nat_le, if◌then◌else◌, replicate}
use Rattle.std.proofs.lemmas.Bool.{and_parts, cases_lt}
use Rattle.std.proofs.lemmas.Bool.Decides.{nat_tests}
use Rattle.std.proofs.lemmas.List.{length-replicate}
use Rattle.mil_word.specs.Fields.{is_broadcast, is_transmit, sub_of, code_of, count_of, is_mode}
use Rattle.mil_mode.specs.Table.{is_known, is_legal_mode, is_broadcast_mode, data_word_count}
use Rattle.mil_message.specs.declared.drafts.ModeSubaddress.{ModeSubaddress}
use Rattle.mil_message.specs.declared.drafts.ModeSubaddress.TheVariants.{Zero, ThirtyOne}
use Rattle.mil_message.specs.Forms.{command_word, mode_subaddress}
use Rattle.mil_message.proofs.ReadBack.{sub_of-command_word}
use Rattle.mil_terminal.specs.History.{History}
use Rattle.mil_terminal.specs.Host.{is_busy}
use Rattle.mil_terminal.specs.Replies.{transmit_words}
use Rattle.mil_terminal.specs.Verdicts.{words_due, is_unknown}
use Rattle.mil_terminal.specs.Replies.{exactly, mode_data, data_sent}

pub transmit-of : (address : ℕ) (transmit : Bool) (subaddress field : ℕ) → subaddress ≤ 31 → field ≤ 31 → is_transmit (command_word address transmit subaddress field) ≡ transmit
transmit-of address true subaddress field s f = let e : command_word address true subaddress field / 2 ^ 10 % 2 ≡ 1 = omega arith in ap (λ n. n == 1) e
transmit-of address false subaddress field s f = let e : command_word address false subaddress field / 2 ^ 10 % 2 ≡ 0 = omega arith in ap (λ n. n == 1) e

no-mode : (n : ℕ) → 1 ≤ n → n ≤ 30 → (n == 0 || n == 31) ≡ false
no-mode n low high =
    let first : (n == 0) ≡ false = grind (arith, nat_tests) in
    let last : (n == 31) ≡ false = grind (arith, nat_tests) in
    rw (first, last) refl

pub not-mode : (address : ℕ) (transmit : Bool) (subaddress field : ℕ) → 1 ≤ subaddress → subaddress ≤ 30 → field ≤ 31 → is_mode (command_word address transmit subaddress field) ≡ false
not-mode address transmit subaddress field low high f =
    ap (λ n. n == 0 || n == 31) (sub_of-command_word address transmit subaddress field (omega (arith, high)) f) ∙ no-mode subaddress low high

a-mode : (subaddress : ModeSubaddress) → (mode_subaddress subaddress == 0 || mode_subaddress subaddress == 31) ≡ true
a-mode Zero = refl
a-mode ThirtyOne = refl

mode-fits : (subaddress : ModeSubaddress) → mode_subaddress subaddress ≤ 31
mode-fits Zero = omega arith
mode-fits ThirtyOne = omega arith

pub is-mode : (address : ℕ) (transmit : Bool) (subaddress : ModeSubaddress) (code : ℕ) → code ≤ 31 → is_mode (command_word address transmit (mode_subaddress subaddress) code) ≡ true
is-mode address transmit subaddress code f =
    ap (λ n. n == 0 || n == 31) (sub_of-command_word address transmit (mode_subaddress subaddress) code (mode-fits subaddress) f) ∙ a-mode subaddress

-- ---- the data words that are announced, and those that are sent back

pub due-received : (c : ℕ) → is_mode c ≡ false → is_transmit c ≡ false → words_due c ≡ count_of c
due-received c mode transmit = rw (mode, transmit) refl

pub due-none : (c : ℕ) (m : Bool) → is_mode c ≡ m → is_transmit c ≡ true → words_due c ≡ 0
due-none c true mode transmit = rw (mode, transmit) refl
due-none c false mode transmit = rw (mode, transmit) refl

pub due-one : (c : ℕ) → is_mode c ≡ true → is_transmit c ≡ false → nat_le 16 (code_of c) ≡ true → words_due c ≡ 1
due-one c mode transmit high = rw (mode, transmit, high) refl

pub sent-none : (own c : ℕ) (h : History) → is_transmit c ≡ false → length (data_sent own c h) ≡ 0
sent-none own c h transmit = rw transmit refl

long-exactly : (n : ℕ) (words : List ℕ) → length (exactly n words) ≡ n
long-exactly n words = omega (arith, length-append (take n words) (replicate (n - length words) 0), length-take n words, length-replicate {A = ℕ} (n - length words) 0)

pub sent-words : (own c : ℕ) (h : History) → is_transmit c ≡ true → is_mode c ≡ false → is_busy h ≡ false → length (data_sent own c h) ≡ count_of c
sent-words own c h transmit mode free =
    let is : data_sent own c h ≡ exactly (count_of c) (transmit_words own (sub_of c) h) = rw (transmit, mode, free) refl in
    ap (λ (ws : List ℕ). length ws) is ∙ long-exactly (count_of c) (transmit_words own (sub_of c) h)

mode-sent : (own c : ℕ) (h : History) → is_transmit c ≡ true → is_mode c ≡ true → data_sent own c h ≡ mode_data own (code_of c) h
mode-sent own c h transmit mode = rw (transmit, mode) refl

none-sent : (own code : ℕ) (h : History) → code ≤ 15 → is_busy h ≡ false → length (mode_data own code h) ≡ 0
none-sent own code h low free =
    let a : (code == 18) ≡ false = grind (arith, nat_tests) in
    let b : (code == 16) ≡ false = grind (arith, nat_tests) in
    let d : (code == 19) ≡ false = grind (arith, nat_tests) in
    rw (a, free, b, d) refl

one-sent : (own code : ℕ) (h : History) (a b d : Bool) → (code == 16) ≡ a → (code == 18) ≡ b → (code == 19) ≡ d → (a || b || d) ≡ true → is_busy h ≡ false → length (mode_data own code h) ≡ 1
one-sent own code h a true d e f g any free = rw f refl
one-sent own code h true false d e f g any free = rw (f, free, e) refl
one-sent own code h false false true e f g any free = rw (f, free, e, g) refl
one-sent own code h false false false e f g any free = cc

pub sent-no_word : (own c code : ℕ) (h : History) → is_transmit c ≡ true → is_mode c ≡ true → code_of c ≡ code → code ≤ 15 → is_busy h ≡ false → length (data_sent own c h) ≡ 0
sent-no_word own c code h transmit mode is low free =
    ap (λ (ws : List ℕ). length ws) (mode-sent own c h transmit mode) ∙ ap (λ n. length (mode_data own n h)) is ∙ none-sent own code h low free

pub sent-one_word : (own c code : ℕ) (h : History) → is_transmit c ≡ true → is_mode c ≡ true → code_of c ≡ code → (code == 16 || code == 18 || code == 19) ≡ true → is_busy h ≡ false → length (data_sent own c h) ≡ 1
sent-one_word own c code h transmit mode is any free =
    ap (λ (ws : List ℕ). length ws) (mode-sent own c h transmit mode) ∙ ap (λ n. length (mode_data own n h)) is
    ∙ one-sent own code h (code == 16) (code == 18) (code == 19) refl refl refl any free

-- ---- what holds of each code, by computing

all_codes : (ℕ → Bool) → ℕ → Bool
all_codes p zero = true
all_codes p (suc n) = p n && all_codes p n

at_code : (p : ℕ → Bool) (n k : ℕ) → all_codes p n ≡ true → k < n → p k ≡ true
unfolding all_codes
at_code p zero k h lt = absurd (omega (arith, lt))
at_code p (suc n) k h lt =
    let parts = and_parts (p n) (all_codes p n) h in
    elim (cases_lt k n) [
      | inl below ↦ at_code p n k parts.1 below
      | inr top ↦
          let e : k ≡ n = omega (arith, top, lt) in
          rw e parts.0
    ]

abbrev from_fits : ℕ → Bool
from_fits k = not (is_known true k && (data_word_count true k == 1)) || (k == 16 || k == 18 || k == 19)

abbrev to_fits : ℕ → Bool
to_fits k = not (data_word_count false k == 1) || nat_le 16 k

abbrev alone_fits : ℕ → Bool
alone_fits k = not (nat_le k 15) || (data_word_count true k == 0)

from-table : all_codes from_fits 32 ≡ true
unfolding all_codes
from-table = refl

to-table : all_codes to_fits 32 ≡ true
unfolding all_codes
to-table = refl

alone-table : all_codes alone_fits 32 ≡ true
unfolding all_codes
alone-table = refl

follows : (a b : Bool) → (not a || b) ≡ true → a ≡ true → b ≡ true
follows true b is so = is
follows false b is so = cc

both : (a b : Bool) → a ≡ true → b ≡ true → (a && b) ≡ true
both a b x y = rw (x, y) refl

-- the codes with a data word that the terminal sends
pub from-codes : (code : ℕ) → code ≤ 31 → is_known true code ≡ true → (data_word_count true code == 1) ≡ true → (code == 16 || code == 18 || code == 19) ≡ true
from-codes code low known one =
    follows (is_known true code && (data_word_count true code == 1)) (code == 16 || code == 18 || code == 19) (at_code from_fits 32 code from-table (omega (arith, low))) (both (is_known true code) (data_word_count true code == 1) known one)

-- those with one that it receives
pub to-codes : (code : ℕ) → code ≤ 31 → (data_word_count false code == 1) ≡ true → nat_le 16 code ≡ true
to-codes code low one = follows (data_word_count false code == 1) (nat_le 16 code) (at_code to_fits 32 code to-table (omega (arith, low))) one

-- and those with none
pub alone-codes : (code : ℕ) → code ≤ 31 → nat_le code 15 ≡ true → (data_word_count true code == 0) ≡ true
alone-codes code low small = follows (nat_le code 15) (data_word_count true code == 0) (at_code alone_fits 32 code alone-table (omega (arith, low))) small

-- a legal mode command's code is one that the standard assigns
legal_if : (m legal broadcast allowed x : Bool) → (if m then not legal || broadcast && not allowed else x) ≡ false → m ≡ true → legal ≡ true
legal_if true true broadcast allowed x is mode = refl
legal_if true false broadcast allowed x is mode = cc
legal_if false legal broadcast allowed x is mode = cc

first_of_three : (a b c : Bool) → (a && b && c) ≡ true → a ≡ true
first_of_three true b c is = refl
first_of_three false b c is = cc

pub legal-known : (c : ℕ) → is_unknown c ≡ false → is_mode c ≡ true → is_known (is_transmit c) (code_of c) ≡ true
legal-known c is mode =
    first_of_three (is_known (is_transmit c) (code_of c)) (not (code_of c == 20)) (not (code_of c == 21))
    (legal_if (is_mode c) (is_legal_mode (is_transmit c) (code_of c)) (is_broadcast c) (is_broadcast_mode (is_transmit c) (code_of c)) (is_broadcast c && is_transmit c) is mode)
