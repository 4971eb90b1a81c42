-- What the host asks for is read back of its text, which stands on one line.
use Rattle.std.proofs.Common.{◌≡◌, ℕ, ◌≤◌, ◌<◌, zero-le, List, [], ◌∷◌, ◌++◌, length, map, refl, sym, ap, ◌∙◌, arith, All}
use Rattle.std.specs.Prelude.{Bool, true, false, ◌==◌, nat_le, codes, decimal, Ok, Some}
use Rattle.std.specs.List.{flat_map}
use Rattle.std.proofs.lemmas.Bool.{eqb-true, eqb-false, le-leb}
use Rattle.std.proofs.lemmas.Bool.Decides.{nat_tests}
use Rattle.std.proofs.lemmas.Fmt.{decimal_is_IsNumeral}
use Rattle.std.proofs.lemmas.List.{append-nil}
use Rattle.std.proofs.lemmas.List.Elements.{All-cons, All-append, All-tail}
use Rattle.numerals.proofs.Back.{decimal_back}
use Rattle.text_lines.specs.Words.{Text, words}
use Rattle.mil_word.specs.declared.Line.{Line}
use Rattle.mil_word.specs.declared.Line.TheVariants.{A, B}
use Rattle.mil_word.specs.Printing.{line_text}
use Rattle.mil_message.specs.declared.forms.Form.{Form}
use Rattle.mil_message.specs.Forms.{data_words}
use Rattle.mil_host.specs.Reading.{within}
use Rattle.mil_host.specs.Printing.{data_text, spaced, spaced_word}
use Rattle.mil_host.proofs.Spacing.{IsWord, AreWords, words-word, words-spaced, one_line-spaced, one_line-word}
use Rattle.mil_host.proofs.ReadingBack.{number, data_word, all_data_back, named, has_bytes_of, digits_visible, line_word}
use Rattle.mil_host.proofs.ReadingBack as host
use Rattle.frame_text.specs.Tokens.{lex, tokens}
use Rattle.frame_text.specs.Reading.{cause_alone, to_the_end, ◌>>=◌}
use Rattle.frame_text.specs.Messages.{send_at, send_of_text}
use Rattle.frame_text.specs.Chains as chains
use Rattle.frame_text.specs.PrintedMessages.{line_and_message_text, message_text}
use Rattle.frame_text.proofs.PrintedForms.{message_then, line_and_message_spells}
use Rattle.frame_text.proofs.FormsBack.{send_back}
use Rattle.controller_host.specs.declared.destinations.Destination.{Destination}
use Rattle.controller_host.specs.declared.destinations.Destination.TheVariants.{Terminal, All as ToEach, Mode, ModeToAll}
use Rattle.controller_host.specs.declared.controls.Control.{Control}
use Rattle.controller_host.specs.declared.controls.Control.TheVariants.{Data, Ramp, Insert}
use Rattle.controller_host.specs.Destinations.{IsDestination, IsCode, is_code, most_words_to}
use Rattle.controller_host.specs.Values.{NewWordsValue, RampValue, InsertionValue, AreNewWords, latest_tick}
use Rattle.controller_host.specs.Ranges.{IsControl, IsRamp, IsInsertion}
use Rattle.controller_text.specs.Reading.{control_in, destination_first, data_control, ramp_control, insert_control, tick_of, tick_first, message_in}
use Rattle.controller_text.specs.Printing.{control_text, control_words, destination_words, insertion_text}
use Rattle.controller_text.proofs.Tokens.{words_send}
use Rattle.controller_text.proofs.MessageLines.{OneLine, message_line}

-- ---- destinations

code_is : (code : ℕ) → IsCode code → is_code code ≡ true
code_is code is = go (code == 17) refl
  where
    go : (b : Bool) → (code == 17) ≡ b → is_code code ≡ true
    go true at = rw at refl
    go false at =
        let ne = eqb-false code 17 at in
        let above : 20 ≤ code = omega (arith, ne, is.0, is.2, is.3) in
        let low : nat_le 20 code ≡ true = grind (arith, nat_tests, above) in
        let high : nat_le code 31 ≡ true = grind (arith, nat_tests, is.1) in
        rw (at, low, high) refl

destination_back : (d : Destination) → IsDestination d → (rest : List Text) → destination_first (destination_words d ++ rest) ≡ Ok (d, rest)
destination_back (Terminal a s) is rest = rw ((number 0 30 a zero-le is.0 (omega arith)).reads, (number 1 30 s is.1.0 is.1.1 (omega arith)).reads) refl
destination_back (ToEach s) is rest = rw (number 1 30 s is.0 is.1 (omega arith)).reads refl
destination_back (Mode a c) is rest = rw ((number 0 30 a zero-le is.0 (omega arith)).reads, (number 0 31 c zero-le is.1.1 (omega arith)).reads, code_is c is.1) refl
destination_back (ModeToAll c) is rest = rw ((number 0 31 c zero-le is.1 (omega arith)).reads, code_is c is) refl

are_destination_words : (d : Destination) → IsDestination d → (rest : List Text) → AreWords rest → AreWords (destination_words d ++ rest)
are_destination_words (Terminal a s) is rest more =
    (named (codes "rx") refl refl, ((number 0 30 a zero-le is.0 (omega arith)).is, ((number 1 30 s is.1.0 is.1.1 (omega arith)).is, more)))
are_destination_words (ToEach s) is rest more = (named (codes "brx") refl refl, ((number 1 30 s is.0 is.1 (omega arith)).is, more))
are_destination_words (Mode a c) is rest more =
    (named (codes "mode") refl refl, ((number 0 30 a zero-le is.0 (omega arith)).is, ((number 0 31 c zero-le is.1.1 (omega arith)).is, more)))
are_destination_words (ModeToAll c) is rest more = (named (codes "bmode") refl refl, ((number 0 31 c zero-le is.1 (omega arith)).is, more))

few_to : (d : Destination) → most_words_to d ≤ 32
few_to (Terminal a s) = omega arith
few_to (ToEach s) = omega arith
few_to (Mode a c) = omega arith
few_to (ModeToAll c) = omega arith

-- ---- new words and ramps

data_back : (new : NewWordsValue) → AreNewWords new → All (λ w. w < 65536) new.words
    → data_control (destination_words new.destination ++ map data_text new.words) ≡ Ok (Data new)
data_back new are small = go new.words are.some are.few small
  where
    go : (ws : List ℕ) → 1 ≤ length ws → length ws ≤ most_words_to new.destination → All (λ w. w < 65536) ws
        → data_control (destination_words new.destination ++ map data_text ws) ≡ Ok (Data (record { destination = new.destination; words = ws }))
    go [] some few small = absurd (omega (arith, some))
    go (w ∷ ws) some few small =
        rw (destination_back new.destination are.destination (map data_text (w ∷ ws)), all_data_back (most_words_to new.destination) (w ∷ ws) few small) refl

ramp_back : (r : RampValue) → IsRamp r
    → ramp_control (destination_words r.destination ++ decimal r.place ∷ data_text r.start ∷ data_text r.add ∷ []) ≡ Ok (Ramp r)
ramp_back r is =
    let few = few_to r.destination in
    rw (
      destination_back r.destination is.place.destination (decimal r.place ∷ data_text r.start ∷ data_text r.add ∷ []),
      (number 1 (most_words_to r.destination) r.place is.place.low is.place.high (omega (arith, few))).reads,
      (data_word r.start is.start).reads,
      (data_word r.add is.add).reads,
    ) refl

are_ramp_words : (r : RampValue) → IsRamp r → AreWords (decimal r.place ∷ data_text r.start ∷ data_text r.add ∷ [])
are_ramp_words r is =
    let few = few_to r.destination in (
      (number 1 (most_words_to r.destination) r.place is.place.low is.place.high (omega (arith, few))).is,
      ((data_word r.start is.start).is, ((data_word r.add is.add).is, tt)),
    )

-- ---- insertions

sixteen : (ws : List ℕ) → All (λ w. w < 65536) ws → chains.AreWords ws
sixteen [] small = tt
sixteen (w ∷ ws) small = (small 0 0 (omega arith), sixteen ws (All-tail (λ w. w < 65536) w ws small))

-- a line and a message are read of their text
message_back : (line : Line) (m : Form) → chains.IsReadable m → send_of_text (line_and_message_text line m) ≡ Ok (line, m)
unfolding lex to_the_end
message_back line m is =
    let text : tokens (line_and_message_text line m) ≡ line_text line ∷ message_then m [] =
    ap tokens (sym (append-nil (line_and_message_text line m))) ∙ (line_and_message_spells line m is).reads [] refl in
    ap (λ ts. cause_alone (send_at ts >>= (λ read. to_the_end read))) text
    ∙ ap (λ r. cause_alone (r >>= (λ read. to_the_end read))) (send_back line m is [] tt)

-- the words of a line and a message
message_words : (line : Line) (m : Form) → words (line_and_message_text line m) ≡ line_text line ∷ words (message_text m)
message_words line m = words-word (line_text line) (message_text m) (line_word line)

insert_message : (line : Line) (m : Form) → chains.IsReadable m → message_in (words (line_and_message_text line m)) ≡ Ok (line, m)
insert_message line m is = rw (message_words line m) (go line (words_send (line_and_message_text line m) ∙ message_back line m is))
  where
    go : (line : Line) → send_of_text (flat_map spaced_word (words (line_and_message_text line m))) ≡ Ok (line, m)
        → message_in (line_text line ∷ words (message_text m)) ≡ Ok (line, m)
    go A back = rw back refl
    go B back = rw back refl

no_tick : (line : Line) (rest : List Text) → tick_first (line_text line ∷ rest) ≡ Ok (0, line_text line ∷ rest)
no_tick A rest = refl
no_tick B rest = refl

record IsTick (tick : ℕ) : Type 0 where
  reads : tick_of (decimal tick) ≡ Ok tick
  is : IsWord (decimal tick)

in_range : (low high n : ℕ) → low ≤ n → n ≤ high → within low high (Some n) ≡ Ok n
in_range low high n from to =
    let above : nat_le low n ≡ true = le-leb low n from in
    let below : nat_le n high ≡ true = le-leb n high to in
    rw (above, below) refl

tick_back : (tick : ℕ) → tick ≤ latest_tick → IsTick tick
tick_back tick high =
    let fits : tick < 18446744073709551616 = omega (arith, high) in
    let spelt = decimal_is_IsNumeral tick fits in
    let some : 1 ≤ length (decimal tick) = omega (arith, spelt.0.0) in
    record {
      reads = ap (within 0 latest_tick) (decimal_back 15 tick (omega arith) (omega (arith, high)) fits) ∙ in_range 0 latest_tick tick zero-le high;
      is = record { some = has_bytes_of (decimal tick) some; visible = digits_visible (decimal tick) spelt.0.1 };
    }

insert_word : IsWord (codes "insert")
insert_word = named (codes "insert") refl refl

-- the words of an insertion
insertion_at_once : (line : Line) (m : Form)
    → words (spaced (codes "insert" ∷ line_and_message_text line m ∷ [])) ≡ codes "insert" ∷ words (line_and_message_text line m)
insertion_at_once line m =
    words-word (codes "insert") (line_and_message_text line m ++ []) insert_word
    ∙ ap (λ t. codes "insert" ∷ words t) (append-nil (line_and_message_text line m))

insertion_held : (tick : ℕ) (line : Line) (m : Form) → IsTick tick
    → words (spaced (codes "insert" ∷ codes "at" ∷ decimal tick ∷ line_and_message_text line m ∷ []))
    ≡ codes "insert" ∷ codes "at" ∷ decimal tick ∷ words (line_and_message_text line m)
insertion_held tick line m is =
    let send = line_and_message_text line m ++ [] in
    words-word (codes "insert") (codes "at" ++ 32 ∷ (decimal tick ++ 32 ∷ send)) insert_word
    ∙ ap (λ ws. codes "insert" ∷ ws) (words-word (codes "at") (decimal tick ++ 32 ∷ send) (named (codes "at") refl refl))
    ∙ ap (λ ws. codes "insert" ∷ codes "at" ∷ ws) (words-word (decimal tick) send is.is)
    ∙ ap (λ t. codes "insert" ∷ codes "at" ∷ decimal tick ∷ words t) (append-nil (line_and_message_text line m))

readable : (x : InsertionValue) → IsInsertion x → chains.IsReadable x.message
readable x is = (is.message, sixteen (data_words x.message) is.words)

insert_back : (x : InsertionValue) → IsInsertion x → control_in (words (insertion_text x)) ≡ Ok (Insert x)
unfolding control_in
insert_back x is = go (x.tick == 0) refl (insert_message x.line x.message (readable x is))
  where
    go : (b : Bool) → (x.tick == 0) ≡ b → message_in (words (line_and_message_text x.line x.message)) ≡ Ok (x.line, x.message)
        → control_in (words (insertion_text x)) ≡ Ok (Insert x)
    go true at message =
        let zeroth : x.tick ≡ 0 = eqb-true x.tick 0 at in
        let text : insertion_text x ≡ spaced (codes "insert" ∷ line_and_message_text x.line x.message ∷ []) = rw at refl in
        let first = message_words x.line x.message in
        let none = no_tick x.line (words (message_text x.message)) in
        let read : message_in (line_text x.line ∷ words (message_text x.message)) ≡ Ok (x.line, x.message) = ap message_in (sym first) ∙ message in
        let inserted : insert_control (line_text x.line ∷ words (message_text x.message)) ≡ Ok (Insert x) =
        rw (none, read) (ap (λ n. Ok (Insert (record { tick = n; line = x.line; message = x.message }))) (sym zeroth)) in
        ap (λ t. control_in (words t)) text ∙ ap control_in (insertion_at_once x.line x.message) ∙ ap insert_control first ∙ inserted
    go false at message =
        let text : insertion_text x ≡ spaced (codes "insert" ∷ codes "at" ∷ decimal x.tick ∷ line_and_message_text x.line x.message ∷ []) = rw at refl in
        let tick = tick_back x.tick is.tick in
        let inserted : insert_control (codes "at" ∷ decimal x.tick ∷ words (line_and_message_text x.line x.message)) ≡ Ok (Insert x) =
        rw (tick.reads, message) refl in
        ap (λ t. control_in (words t)) text ∙ ap control_in (insertion_held x.tick x.line x.message tick) ∙ inserted

-- ---- all three

are_words : (new : NewWordsValue) → AreNewWords new → All (λ w. w < 65536) new.words
    → AreWords (codes "data" ∷ (destination_words new.destination ++ map data_text new.words))
are_words new are small = (named (codes "data") refl refl, are_destination_words new.destination are.destination (map data_text new.words) (host.data_words new.words small))

are_words_of_ramp : (r : RampValue) → IsRamp r
    → AreWords (codes "ramp" ∷ (destination_words r.destination ++ decimal r.place ∷ data_text r.start ∷ data_text r.add ∷ []))
are_words_of_ramp r is =
    let rest = decimal r.place ∷ data_text r.start ∷ data_text r.add ∷ [] in
    (named (codes "ramp") refl refl, are_destination_words r.destination is.place.destination rest (are_ramp_words r is))

pub back : (control : Control) → IsControl control → control_in (words (control_text control)) ≡ Ok control
unfolding control_in control_text
back (Data new) is = ap control_in (words-spaced (control_words (Data new)) (are_words new is.0 is.1)) ∙ data_back new is.0 is.1
back (Ramp ramp) is = ap control_in (words-spaced (control_words (Ramp ramp)) (are_words_of_ramp ramp is)) ∙ ramp_back ramp is
back (Insert insertion) is = insert_back insertion is

spaced_line : (w t : Text) → OneLine w → OneLine t → OneLine (w ++ 32 ∷ t)
spaced_line w t first rest = All-append (λ b. 32 ≤ b) w (32 ∷ t) first (All-cons (λ b. 32 ≤ b) 32 t (omega arith) rest)

word_line : (w : Text) → IsWord w → OneLine w
word_line w is = one_line-word w is.visible

insertion_line : (x : InsertionValue) → IsInsertion x → OneLine (insertion_text x)
insertion_line x is = go (x.tick == 0) refl
  where
    send : OneLine (line_and_message_text x.line x.message ++ [])
    send =
        rw (append-nil (line_and_message_text x.line x.message))
        (spaced_line (line_text x.line) (message_text x.message) (word_line (line_text x.line) (line_word x.line)) (message_line x.message (readable x is)))

    go : (b : Bool) → (x.tick == 0) ≡ b → OneLine (insertion_text x)
    go true at = rw at (spaced_line (codes "insert") (line_and_message_text x.line x.message ++ []) (word_line (codes "insert") insert_word) send)
    go false at =
        let tick = tick_back x.tick is.tick in
        let held = decimal x.tick ++ 32 ∷ (line_and_message_text x.line x.message ++ []) in
        rw at
        (spaced_line (codes "insert") (codes "at" ++ 32 ∷ held) (word_line (codes "insert") insert_word)
        (spaced_line (codes "at") held (word_line (codes "at") (named (codes "at") refl refl))
        (spaced_line (decimal x.tick) (line_and_message_text x.line x.message ++ []) (word_line (decimal x.tick) tick.is) send)))

pub one_line : (control : Control) → IsControl control → OneLine (control_text control)
unfolding control_text
one_line (Data new) is = one_line-spaced (control_words (Data new)) (are_words new is.0 is.1)
one_line (Ramp ramp) is = one_line-spaced (control_words (Ramp ramp)) (are_words_of_ramp ramp is)
one_line (Insert insertion) is = insertion_line insertion is
