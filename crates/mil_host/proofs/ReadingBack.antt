-- A printed action reads back.
use Rattle.std.proofs.Common.{◌≡◌, ℕ, zero, suc, ◌≤◌, ◌<◌, zero-le, List, Bool, true, false, [], ◌∷◌, drop, length, refl, sym, ap, ◌∙◌, arith, All}
use Rattle.std.specs.Prelude.{Ok, Some, slice_get, codes, decimal, map, nat_lt, nat_le, ◌&&◌}
use Rattle.std.specs.List.{list_all}
use Rattle.std.specs.Char.{digit_value}
use Rattle.std.specs.Str.Parse.{AllDigits}
use Rattle.std.proofs.lemmas.Bool.Decides.{nat_tests}
use Rattle.std.proofs.lemmas.Str.Parse.{digit_from_value}
use Rattle.std.proofs.lemmas.Fmt.{decimal_is_IsNumeral}
use Rattle.std.proofs.lemmas.List.Elements.{All-tail}
use Rattle.numerals.proofs.Back.{decimal_back, four_back}
use Rattle.mil_word.specs.declared.Line.{Line}
use Rattle.mil_word.specs.declared.Line.TheVariants.{A, B}
use Rattle.mil_host.specs.Values.{PutUp, Marked, ModeMarked, Ramped}
use Rattle.text_lines.specs.Words.{Text, has_bytes}
use Rattle.mil_host.specs.Reading.{action_in, in_words, of_word, name_of, number_of, data_of, value_or_fault, all_data, only_switch, only_line_switch, only_ramp, mark_in}
use Rattle.mil_word.specs.Printing.{line_text}
use Rattle.mil_host.specs.Printing.{action_text, action_words, data_text, switch_text, direction_text, mark_words, mode_mark_words, ramp_words}
use Rattle.mil_host.specs.Ranges.{IsInRange, IsPutUp, IsMark, IsRamp}
use Rattle.mil_host.specs.declared.actions.Action.{Action}
use Rattle.mil_host.specs.declared.actions.Action.TheVariants.{Transmit, Busy, Service, Subsystem, Fault, Control, Vector, SelfTest, Illegal, Legal, Response, Deaf, Mute}
use Rattle.mil_host.specs.declared.actions.Action.TheVariants.{IllegalMode, LegalMode, Broadcast, Power, BitWord, ServiceOnce, Gap, Ramp}
use Rattle.mil_host.proofs.Spacing.{AreVisible, IsWord, AreWords, words-spaced, one_line-spaced}

-- the first word of a text names the action
pub in_words-first : (texts rest : List Text) (word : Text) → Some word ≡ slice_get texts 0 → rest ≡ drop 1 texts → in_words texts ≡ of_word (name_of word) rest
in_words-first [] rest word first is = cc
in_words-first (text ∷ texts) rest word first is =
    let same : word ≡ text = cc in
    ap (λ (t : Text). of_word (name_of t) texts) (sym same) ∙ ap (of_word (name_of word)) (sym is)

-- four hexadecimal digits spell a data word
pub record IsData (value : ℕ) (word : Text) : Type 0 where
  pub reads : data_of word ≡ Ok value
  pub is : IsWord word

pub data_word : (value : ℕ) → value < 65536 → IsData value (data_text value)
data_word value lt =
    let back = four_back value lt in
    record {
      reads = ap value_or_fault back.reads;
      is = record { some = refl; visible = (back.first, (back.second, (back.third, (back.fourth, tt)))) };
    }

-- a digit is visible
visible_digit : (c : ℕ) → digit_value c < 10 → nat_lt 32 c ≡ true
visible_digit c lt =
    let range = digit_from_value c lt in
    grind (arith, nat_tests, range.0)

-- digits are visible
pub digits_visible : (word : Text) → AllDigits 10 word → AreVisible word
digits_visible [] all = tt
digits_visible (c ∷ word) all = (visible_digit c all.0, digits_visible word all.1)

-- a printed number reads back within its range
pub record IsNumber (low high n : ℕ) : Type 0 where
  pub reads : number_of low high (decimal n) ≡ Ok n
  pub is : IsWord (decimal n)

-- a word that is not empty
pub has_bytes_of : (word : Text) → 1 ≤ length word → has_bytes word ≡ true
has_bytes_of [] some = absurd (omega arith)
has_bytes_of (b ∷ word) some = refl

pub number : (low high n : ℕ) → low ≤ n → n ≤ high → high ≤ 9999999 → IsNumber low high n
number low high n from to small =
    let spelt = decimal_is_IsNumeral n (omega arith) in
    let some : 1 ≤ length (decimal n) = omega (arith, spelt.0.0) in
    let above : nat_le low n ≡ true = grind (arith, nat_tests, from) in
    let below : nat_le n high ≡ true = grind (arith, nat_tests, to) in
    record {
      reads = rw (decimal_back 7 n (omega arith) (omega arith) (omega arith), above, below) refl;
      is = record { some = has_bytes_of (decimal n) some; visible = digits_visible (decimal n) spelt.0.1 };
    }

-- data words read back to the end
pub all_data_back : (room : ℕ) (values : List ℕ) → length values ≤ room → All (λ w. w < 65536) values → all_data room (map data_text values) ≡ Ok values
all_data_back room [] few small = refl
all_data_back zero (w ∷ values) few small = absurd (omega arith)
all_data_back (suc room) (w ∷ values) few small =
    rw ((data_word w (small 0 0 (omega arith))).reads, all_data_back room values (omega arith) (All-tail (λ w. w < 65536) w values small)) refl

pub data_words : (values : List ℕ) → All (λ w. w < 65536) values → AreWords (map data_text values)
data_words [] small = tt
data_words (w ∷ values) small = ((data_word w (small 0 0 (omega arith))).is, data_words values (All-tail (λ w. w < 65536) w values small))

-- words that are put up
put_up_back : (put : PutUp) → IsPutUp put → in_words (action_words (Transmit put)) ≡ Ok (Transmit put)
put_up_back put range = go put.words range.some range.few range.of_16_bits
  where
    go : (values : List ℕ) → 1 ≤ length values → length values ≤ 32 → All (λ w. w < 65536) values
        → in_words (action_words (Transmit (record { sub = put.sub; words = values }))) ≡ Ok (Transmit (record { sub = put.sub; words = values }))
    go [] some few small = absurd (omega arith)
    go (w ∷ values) some few small =
        rw ((number 1 29 put.sub range.sub_low range.sub_high (omega arith)).reads, all_data_back 32 (w ∷ values) few small) refl

switch_word : (on : Bool) → IsWord (switch_text on)
switch_word true = record { some = refl; visible = (refl, (refl, tt)) }
switch_word false = record { some = refl; visible = (refl, (refl, (refl, tt))) }

pub line_word : (line : Line) → IsWord (line_text line)
line_word A = record { some = refl; visible = (refl, tt) }
line_word B = record { some = refl; visible = (refl, tt) }

direction_word : (transmit : Bool) → IsWord (direction_text transmit)
direction_word true = record { some = refl; visible = (refl, (refl, (refl, (refl, (refl, (refl, (refl, (refl, tt)))))))) }
direction_word false = record { some = refl; visible = (refl, (refl, (refl, (refl, (refl, (refl, (refl, tt))))))) }

-- the words of a mark of a subaddress
mark_back : (at_sub : Marked → Action) (of_mode : ModeMarked → Action) (mark : Marked) → IsMark mark → mark_in at_sub of_mode (mark_words mark) ≡ Ok (at_sub mark)
mark_back at_sub of_mode mark range = go mark.transmit
  where
    sub : IsNumber 1 30 mark.sub
    sub = number 1 30 mark.sub range.sub_low range.sub_high (omega arith)

    count : IsNumber 1 32 mark.count
    count = number 1 32 mark.count range.count_low range.count_high (omega arith)

    go : (transmit : Bool) → mark_in at_sub of_mode (mark_words (record { transmit = transmit; sub = mark.sub; count = mark.count })) ≡ Ok (at_sub (record { transmit = transmit; sub = mark.sub; count = mark.count }))
    go true = rw (sub.reads, count.reads) refl
    go false = rw (sub.reads, count.reads) refl

-- the words of a mark of mode commands
mode_mark_back : (at_sub : Marked → Action) (of_mode : ModeMarked → Action) (mark : ModeMarked) → mark.code ≤ 31 → mark_in at_sub of_mode (mode_mark_words mark) ≡ Ok (of_mode mark)
mode_mark_back at_sub of_mode mark range = go mark.transmit
  where
    code : IsNumber 0 31 mark.code
    code = number 0 31 mark.code zero-le range (omega arith)

    go : (transmit : Bool) → mark_in at_sub of_mode (mode_mark_words (record { transmit = transmit; code = mark.code })) ≡ Ok (of_mode (record { transmit = transmit; code = mark.code }))
    go true = rw code.reads refl
    go false = rw code.reads refl

-- the words of a ramp
ramp_back : (r : Ramped) → IsRamp r → only_ramp (ramp_words r) ≡ Ok r
ramp_back r range =
    rw (
      (number 1 29 r.sub range.sub_low range.sub_high (omega arith)).reads,
      (number 1 32 r.index range.index_low range.index_high (omega arith)).reads,
      (data_word r.start range.start_16_bits).reads,
      (data_word r.add range.add_16_bits).reads,
    ) refl

are_ramp_words : (r : Ramped) → IsRamp r → AreWords (ramp_words r)
are_ramp_words r range = (
  (number 1 29 r.sub range.sub_low range.sub_high (omega arith)).is,
  (
    (number 1 32 r.index range.index_low range.index_high (omega arith)).is,
    ((data_word r.start range.start_16_bits).is, ((data_word r.add range.add_16_bits).is, tt)),
  ),
)

are_mark_words : (mark : Marked) → IsMark mark → AreWords (mark_words mark)
are_mark_words mark range =
    (direction_word mark.transmit, ((number 1 30 mark.sub range.sub_low range.sub_high (omega arith)).is, ((number 1 32 mark.count range.count_low range.count_high (omega arith)).is, tt)))

-- the name of an action is a word
visible : (word : Text) → list_all (λ b. nat_lt 32 b) word ≡ true → AreVisible word
visible [] each = tt
visible (b ∷ word) each = go (nat_lt 32 b) refl each (visible word)
  where
    go : (s : Bool) → nat_lt 32 b ≡ s → (s && list_all (λ b. nat_lt 32 b) word) ≡ true
        → (list_all (λ b. nat_lt 32 b) word ≡ true → AreVisible word) → AreVisible (b ∷ word)
    go false is each rest = cc
    go true is each rest = (is, rest each)

pub named : (name : Text) → has_bytes name ≡ true → list_all (λ b. nat_lt 32 b) name ≡ true → IsWord name
named name some each = record { some = some; visible = visible name each }

are_mode_mark_words : (mark : ModeMarked) → mark.code ≤ 31 → AreWords (mode_mark_words mark)
are_mode_mark_words mark range =
    (named (codes "mode") refl refl, (direction_word mark.transmit, ((number 0 31 mark.code zero-le range (omega arith)).is, tt)))

are_words : (a : Action) → IsInRange a → AreWords (action_words a)
are_words (Transmit put) range =
    (named (codes "transmit") refl refl, ((number 1 29 put.sub range.sub_low range.sub_high (omega arith)).is, data_words put.words range.of_16_bits))
are_words (Busy on) range = (named (codes "busy") refl refl, (switch_word on, tt))
are_words (Service on) range = (named (codes "service") refl refl, (switch_word on, tt))
are_words (Subsystem on) range = (named (codes "subsystem") refl refl, (switch_word on, tt))
are_words (Fault on) range = (named (codes "fault") refl refl, (switch_word on, tt))
are_words (Control on) range = (named (codes "control") refl refl, (switch_word on, tt))
are_words (Vector value) range = (named (codes "vector") refl refl, ((data_word value range).is, tt))
are_words (SelfTest value) range = (named (codes "selftest") refl refl, ((data_word value range).is, tt))
are_words (Illegal mark) range = (named (codes "illegal") refl refl, are_mark_words mark range)
are_words (Legal mark) range = (named (codes "legal") refl refl, are_mark_words mark range)
are_words (Response ticks) range = (named (codes "response") refl refl, ((number 40 120 ticks range.0 range.1 (omega arith)).is, tt))
are_words (Deaf line on) range = (named (codes "deaf") refl refl, (line_word line, (switch_word on, tt)))
are_words (Mute line on) range = (named (codes "mute") refl refl, (line_word line, (switch_word on, tt)))
are_words (IllegalMode mark) range = (named (codes "illegal") refl refl, are_mode_mark_words mark range)
are_words (LegalMode mark) range = (named (codes "legal") refl refl, are_mode_mark_words mark range)
are_words (Broadcast on) range = (named (codes "broadcast") refl refl, (switch_word on, tt))
are_words (Power on) range = (named (codes "power") refl refl, (switch_word on, tt))
are_words (BitWord value) range = (named (codes "bit") refl refl, ((data_word value range).is, tt))
are_words ServiceOnce range = (named (codes "service") refl refl, (named (codes "once") refl refl, tt))
are_words (Gap ticks) range = (named (codes "gap") refl refl, ((number 21 255 ticks range.0 range.1 (omega arith)).is, tt))
are_words (Ramp r) range = (named (codes "ramp") refl refl, are_ramp_words r range)

switch_back : (on : Bool) → only_switch (switch_text on ∷ []) ≡ Ok on
switch_back true = refl
switch_back false = refl

line_switch_back : (line : Line) (on : Bool) → only_line_switch (line_text line ∷ switch_text on ∷ []) ≡ Ok (line, on)
line_switch_back A true = refl
line_switch_back A false = refl
line_switch_back B true = refl
line_switch_back B false = refl

words_back : (a : Action) → IsInRange a → in_words (action_words a) ≡ Ok a
words_back (Transmit put) range = put_up_back put range
words_back (Busy on) range = rw (switch_back on) refl
words_back (Service true) range = refl
words_back (Service false) range = refl
words_back (Subsystem on) range = rw (switch_back on) refl
words_back (Fault on) range = rw (switch_back on) refl
words_back (Control on) range = rw (switch_back on) refl
words_back (Vector value) range = rw (data_word value range).reads refl
words_back (SelfTest value) range = rw (data_word value range).reads refl
words_back (Illegal mark) range = mark_back Illegal IllegalMode mark range
words_back (Legal mark) range = mark_back Legal LegalMode mark range
words_back (Response ticks) range = rw (number 40 120 ticks range.0 range.1 (omega arith)).reads refl
words_back (Deaf line on) range = rw (line_switch_back line on) refl
words_back (Mute line on) range = rw (line_switch_back line on) refl
words_back (IllegalMode mark) range = mode_mark_back Illegal IllegalMode mark range
words_back (LegalMode mark) range = mode_mark_back Legal LegalMode mark range
words_back (Broadcast on) range = rw (switch_back on) refl
words_back (Power on) range = rw (switch_back on) refl
words_back (BitWord value) range = rw (data_word value range).reads refl
words_back ServiceOnce range = refl
words_back (Gap ticks) range = rw (number 21 255 ticks range.0 range.1 (omega arith)).reads refl
words_back (Ramp r) range = rw (ramp_back r range) refl

-- the text of an action in range spells it
pub reads-back : (a : Action) → IsInRange a → action_in (action_text a) ≡ Ok a
unfolding action_in action_text
reads-back a range = rw (words-spaced (action_words a) (are_words a range)) (words_back a range)

-- the text of an action in range stands on one line
pub one_line : (a : Action) → IsInRange a → All (λ b. 32 ≤ b) (action_text a)
unfolding action_text
one_line a range = one_line-spaced (action_words a) (are_words a range)
