-- A printed report spells itself.
use Rattle.std.proofs.Common.{◌≡◌, ℕ, ◌^◌, ◌<◌, ◌≤◌, List, [], ◌∷◌, ◌++◌, refl, ap, ◌∙◌, arith, length, All, append-nil, append_assoc, slice_index_or}
use Rattle.std.specs.Prelude.{Bool, true, false, map, nat_le, nat_eq, Some, Ok, codes, decimal}
use Rattle.std.specs.List.{flat_map}
use Rattle.std.proofs.lemmas.Bool.Decides.{nat_tests}
use Rattle.std.specs.Str.Parse.{AllDigits}
use Rattle.std.proofs.lemmas.Str.Parse.{digit_from_value}
use Rattle.std.proofs.lemmas.Fmt.{decimal_is_IsNumeral}
use Rattle.std.proofs.lemmas.List.Elements.{All-nil, All-cons, All-append, All-tail}
use Rattle.numerals.proofs.Back.{decimal_back}
use Rattle.bc_machine.specs.declared.placed.Placed.{Placed}
use Rattle.bc_machine.specs.declared.placed.HostAction.{HostAction}
use Rattle.bc_machine.specs.declared.placed.HostAction.TheVariants.{Terminal, Controller}
use Rattle.text_lines.specs.Words.{Text, words}
use Rattle.mil_host.specs.Reading.{in_words, action_in}
use Rattle.mil_host.specs.Printing.{spaced, spaced_word, action_text}
use Rattle.mil_host.proofs.Spacing.{IsWord, words-word, words-spaced, one_line-word}
use Rattle.mil_host.proofs.ReadingBack.{digits_visible, has_bytes_of, named, reads-back, one_line}
use Rattle.controller_text.specs.Printing.{control_text}
use Rattle.controller_text.proofs.ControlsBack as control
use Rattle.bench_report.specs.Reports.{ChannelPart, RunReport, IsPart, IsPlaced, IsForPlace, IsHostAction, IsReport, Rises}
use Rattle.bench_report.specs.Lines.{said, line_in, bounded_number, is_controller, IsLine}
use Rattle.bench_report.specs.Spelling.{part_lines, report_lines, Spells}
use Rattle.text_lines.specs.Lines.{is_line_end, text_lines}
use Rattle.bench_report.specs.Printing.{line_words, host_action_words, report_line_text, report_text}
use Rattle.bench_report.specs.declared.lines.ReportLine.{ReportLine}
use Rattle.bench_report.specs.declared.lines.ReportLine.TheVariants as line
use Rattle.text_lines.proofs.LineLemmas.{text_lines-line, text_lines-none}

-- a printed number reads back
record IsNumber (most low high n : ℕ) : Type 0 where
  reads : bounded_number most low high (decimal n) ≡ Some n
  is : IsWord (decimal n)

number : (most low high n : ℕ) → 0 < most → n < 10 ^ most → n < 18446744073709551616 → low ≤ n → n ≤ high → IsNumber most low high n
number most low high n some fits small from to =
    let spelt = decimal_is_IsNumeral n small in
    let long : 1 ≤ length (decimal n) = omega (arith, spelt.0.0) in
    let above : nat_le low n ≡ true = grind (arith, nat_tests, from) in
    let below : nat_le n high ≡ true = grind (arith, nat_tests, to) in
    record {
      reads = rw (decimal_back most n some fits small, above, below) refl;
      is = record { some = has_bytes_of (decimal n) long; visible = digits_visible (decimal n) spelt.0.1 };
    }

placed_words : (name m a text : Text) → IsWord name → IsWord m → IsWord a → words (spaced (name ∷ m ∷ a ∷ text ∷ [])) ≡ name ∷ m ∷ a ∷ words text
placed_words name m a text is_name is_m is_a =
    rw (append-nil text, words-word name (m ++ 32 ∷ (a ++ 32 ∷ text)) is_name, words-word m (a ++ 32 ∷ text) is_m, words-word a text is_a) refl

-- the words of a line are words, but for the text of an action
channel_number : (n : ℕ) → (1 ≤ n) × (n ≤ 65535) → IsNumber 7 1 65535 n
channel_number n range = number 7 1 65535 n (omega arith) (omega (arith, range.1)) (omega (arith, range.1)) range.0 range.1

made_number : (n : ℕ) → n ≤ 1000000 → IsNumber 7 0 1000000 n
made_number n range = number 7 0 1000000 n (omega arith) (omega arith) (omega arith) (omega arith) range

message_number : (n : ℕ) → 1 ≤ n → n ≤ 1000000 → IsNumber 7 1 1000000 n
message_number n low high = number 7 1 1000000 n (omega arith) (omega arith) (omega arith) low high

address_number : (n : ℕ) → n ≤ 30 → IsNumber 7 0 30 n
address_number n high = number 7 0 30 n (omega arith) (omega arith) (omega arith) (omega arith) high

packets_number : (n : ℕ) → n ≤ 9999999999 → IsNumber 10 0 9999999999 n
packets_number n high = number 10 0 9999999999 n (omega arith) (omega arith) (omega arith) (omega arith) high

-- a number does not name the controller
digits_alone : (word : Text) → AllDigits 10 word → is_controller word ≡ false
digits_alone [] all = refl
digits_alone (c ∷ word) all =
    let range = digit_from_value c all.0 in
    let other : nat_eq c 98 ≡ false = grind (arith, nat_tests, range.1) in
    rw other refl

no_name : (n : ℕ) → n ≤ 30 → is_controller (decimal n) ≡ false
no_name n high = digits_alone (decimal n) (decimal_is_IsNumeral n (omega (arith, high))).0.1

bc_word : IsWord (codes "bc")
bc_word = named (codes "bc") refl refl

-- the line of a placed action says it
said_placed : (n : ℕ) (action : HostAction) → 1 ≤ n → n ≤ 1000000 → IsForPlace action → IsHostAction action
    → said (spaced (line_words (line.Placed (record { number = n; action = action })))) ≡ Some (line.Placed (record { number = n; action = action }))
unfolding said action_in
said_placed n (Terminal address action) low high place is =
    let n_is = message_number n low high in
    let a_is = address_number address place in
    let back : in_words (words (action_text action)) ≡ Ok action = reads-back action is in
    let parted : words (spaced (codes "placed" ∷ decimal n ∷ decimal address ∷ action_text action ∷ [])) ≡ codes "placed" ∷ decimal n ∷ decimal address ∷ words (action_text action) =
    placed_words (codes "placed") (decimal n) (decimal address) (action_text action) (named (codes "placed") refl refl) n_is.is a_is.is in
    ap line_in parted ∙ rw (no_name address place, n_is.reads, a_is.reads, back) refl
said_placed n (Controller asked) low high place is =
    let n_is = message_number n low high in
    let parted : words (spaced (codes "placed" ∷ decimal n ∷ codes "bc" ∷ control_text asked ∷ [])) ≡ codes "placed" ∷ decimal n ∷ codes "bc" ∷ words (control_text asked) =
    placed_words (codes "placed") (decimal n) (codes "bc") (control_text asked) (named (codes "placed") refl refl) n_is.is bc_word in
    ap line_in parted ∙ rw (n_is.reads, control.back asked is) refl

-- the text of a line says it
said_line : (l : ReportLine) → IsLine l → said (spaced (line_words l)) ≡ Some l
unfolding said
said_line (line.Channel n) is =
    let n_is = channel_number n is in
    let parted : words (spaced (line_words (line.Channel n))) ≡ codes "channel" ∷ decimal n ∷ [] = words-spaced (codes "channel" ∷ decimal n ∷ []) (named (codes "channel") refl refl, (n_is.is, tt)) in
    ap line_in parted ∙ rw n_is.reads refl
said_line (line.Made n) is =
    let n_is = made_number n is in
    let parted : words (spaced (line_words (line.Made n))) ≡ codes "made" ∷ decimal n ∷ [] = words-spaced (codes "made" ∷ decimal n ∷ []) (named (codes "made") refl refl, (n_is.is, tt)) in
    ap line_in parted ∙ rw n_is.reads refl
said_line (line.Refused n) is =
    let n_is = message_number n is.0 is.1 in
    let parted : words (spaced (line_words (line.Refused n))) ≡ codes "refused" ∷ decimal n ∷ [] = words-spaced (codes "refused" ∷ decimal n ∷ []) (named (codes "refused") refl refl, (n_is.is, tt)) in
    ap line_in parted ∙ rw n_is.reads refl
said_line (line.Placed p) is = said_placed p.number p.action is.place.number_low is.place.number_high is.place.address is.action
said_line (line.Packets n) is =
    let n_is = packets_number n is in
    let parted : words (spaced (line_words (line.Packets n))) ≡ codes "packets" ∷ decimal n ∷ [] = words-spaced (codes "packets" ∷ decimal n ∷ []) (named (codes "packets") refl refl, (n_is.is, tt)) in
    ap line_in parted ∙ rw n_is.reads refl

-- texts with no control character, and what stands together of them with spaces between
abbrev OnOneLine : Text → Type 0
OnOneLine text = All (λ b. 32 ≤ b) text

abbrev EachOnOneLine : List Text → Type 0
EachOnOneLine [] = Unit {0}
EachOnOneLine (w ∷ ws) = OnOneLine w × EachOnOneLine ws

behind_spaces : (ws : List Text) → EachOnOneLine ws → OnOneLine (flat_map spaced_word ws)
behind_spaces [] each = All-nil (λ b. 32 ≤ b)
behind_spaces (w ∷ ws) each =
    All-append (λ b. 32 ≤ b) (32 ∷ w) (flat_map spaced_word ws) (All-cons (λ b. 32 ≤ b) 32 w (omega arith) each.0) (behind_spaces ws each.1)

together : (ws : List Text) → EachOnOneLine ws → OnOneLine (spaced ws)
together [] each = All-nil (λ b. 32 ≤ b)
together (w ∷ ws) each = All-append (λ b. 32 ≤ b) w (flat_map spaced_word ws) each.0 (behind_spaces ws each.1)

on_line : (word : Text) → IsWord word → OnOneLine word
on_line word is = one_line-word word is.visible

host_on_line : (action : HostAction) → IsForPlace action → IsHostAction action → EachOnOneLine (host_action_words action)
host_on_line (Terminal address action) place is = (on_line (decimal address) (address_number address place).is, (one_line action is, tt))
host_on_line (Controller asked) place is = (on_line (codes "bc") bc_word, (control.one_line asked is, tt))

line_on_line : (l : ReportLine) → IsLine l → OnOneLine (spaced (line_words l))
line_on_line (line.Channel n) is =
    together (codes "channel" ∷ decimal n ∷ []) (on_line (codes "channel") (named (codes "channel") refl refl), (on_line (decimal n) (channel_number n is).is, tt))
line_on_line (line.Made n) is =
    together (codes "made" ∷ decimal n ∷ []) (on_line (codes "made") (named (codes "made") refl refl), (on_line (decimal n) (made_number n is).is, tt))
line_on_line (line.Refused n) is =
    together (codes "refused" ∷ decimal n ∷ []) (on_line (codes "refused") (named (codes "refused") refl refl), (on_line (decimal n) (message_number n is.0 is.1).is, tt))
line_on_line (line.Placed p) is =
    together (codes "placed" ∷ decimal p.number ∷ host_action_words p.action) (
      on_line (codes "placed") (named (codes "placed") refl refl),
      (on_line (decimal p.number) (message_number p.number is.place.number_low is.place.number_high).is, host_on_line p.action is.place.address is.action),
    )
line_on_line (line.Packets n) is =
    together (codes "packets" ∷ decimal n ∷ []) (on_line (codes "packets") (named (codes "packets") refl refl), (on_line (decimal n) (packets_number n is).is, tt))

not_an_end : (b : ℕ) → 32 ≤ b → is_line_end b ≡ false
not_an_end b high = go (is_line_end b) refl
  where
    go : (s : Bool) → is_line_end b ≡ s → is_line_end b ≡ false
    go false is = is
    go true is = let at : b ≡ 10 = grind (arith, nat_tests, is) in absurd (omega (arith, at, high))

no_end : (text : Text) → OnOneLine text → All (λ b. is_line_end b ≡ false) text
no_end text on k d lt = not_an_end (slice_index_or text k d) (on k d lt)

abbrev AreLines : List ReportLine → Type 0
AreLines [] = Unit {0}
AreLines (l ∷ ls) = IsLine l × AreLines ls

printed_lines : (ls : List ReportLine) → AreLines ls → map said (text_lines (flat_map report_line_text ls)) ≡ map Some ls
printed_lines [] are = rw (text_lines-none [] refl) refl
printed_lines (l ∷ ls) are =
    rw (
      append_assoc (spaced (line_words l)) (codes "\n") (flat_map report_line_text ls),
      text_lines-line (spaced (line_words l)) (flat_map report_line_text ls) (no_end (spaced (line_words l)) (line_on_line l are.0)),
      said_line l are.0,
      printed_lines ls are.1,
    ) refl

are_append : (xs ys : List ReportLine) → AreLines xs → AreLines ys → AreLines (xs ++ ys)
are_append [] ys are more = more
are_append (x ∷ xs) ys are more = (are.0, are_append xs ys are.1 more)

are_refused : (above made : ℕ) (ns : List ℕ) → made ≤ 1000000 → Rises above made ns → AreLines (map line.Refused ns)
are_refused above made [] small rises = tt
are_refused above made (n ∷ ns) small rises = ((omega (arith, rises.0), omega (arith, rises.1)), are_refused n made ns small rises.2)

are_placed : (ps : List Placed) → All IsPlaced ps → AreLines (map line.Placed ps)
are_placed [] each = tt
are_placed (p ∷ ps) each = (each 0 p (omega arith), are_placed ps (All-tail IsPlaced p ps each))

are_part : (p : ChannelPart) → IsPart p → AreLines (part_lines p)
are_part p is = (
  (is.channel_low, is.channel_high),
  (
    is.made,
    are_append (map line.Refused p.refused) (map line.Placed p.placed) (are_refused 0 p.made p.refused is.made is.refused) (are_placed p.placed is.placed),
  ),
)

are_parts : (ps : List ChannelPart) → All IsPart ps → AreLines (flat_map part_lines ps)
are_parts [] each = tt
are_parts (p ∷ ps) each = are_append (part_lines p) (flat_map part_lines ps) (are_part p (each 0 p (omega arith))) (are_parts ps (All-tail IsPart p ps each))

-- what is printed spells its report
pub printed-spells : (r : RunReport) → IsReport r → Spells (report_text r) r
unfolding Spells report_text
printed-spells r is =
    printed_lines (report_lines r) (are_append (flat_map part_lines r.channels) (line.Packets r.packets ∷ []) (are_parts r.channels is.parts) (is.packets, tt))
