-- Messages that were printed, one after the other.
use Rattle.std.proofs.Common.{◌≡◌, ℕ, ◌+◌, ◌<◌, ◌^◌, ◌==◌, ◌&&◌, Bool, true, false, cond, List, [], ◌∷◌, ◌++◌, length, reverse, Option, refl, ap, sym, subst, ◌∙◌, arith, append_assoc, append-nil, length-append}
use Rattle.std.specs.Prelude.{map, OnOk, Result, Ok, Err}
use Rattle.std.proofs.lemmas.List.{length-map, length-reverse}
use Rattle.ch11_f1.specs.BodyReading.{Message}
use Rattle.ch11_layout.specs.Stamps.{Recorded, recorded}
use Rattle.ch11_layout.specs.declared.stamps.StampKind.{StampKind}
use Rattle.bench_dump.specs.DumpText.{message_line}
use Rattle.bench_select.specs.Selecting.{selects}
use Rattle.bench_select.specs.declared.selection.Selection.{Selection}
use Rattle.bench_select.specs.Viewed.{channels_of, Viewed}
use Rattle.bench_select.proofs.Passed.{with_channel}
use Rattle.bench_decode.specs.declared.messages.Place.{Place}
use Rattle.bench_decode.specs.declared.printing.Output.{Output}
use Rattle.bench_decode.specs.declared.printing.Printing.{Printing}
use Rattle.bench_decode.specs.ByTime.{Told, chosen, is_chosen}
use Rattle.bench_decode.specs.MessageText.{columns_line, message_line_with}
use Rattle.bench_decode.specs.Numbering.{AreCounts}
use Rattle.bench_decode.specs.Printed.{HavePrinted, IsBehind}
use Rattle.bench_decode.specs.RecordingText.{dumped, line_of, lines_behind, lines_next, names_behind, place_of, told_next}
use Rattle.bench_decode.specs.Waiting.{IsPut, Waiting}
use Rattle.bench_decode.proofs.ChosenLines.{count_then, few_chosen, lines_then, next_chosen, next_left_out, turned}
use Rattle.bench_decode.proofs.Wording.{put-none, put-then}

-- what holds of a call that ended well
pub on_ok : {X E : Type 0} {A B D : Type 0} (r : Result X E) → OnOk r A → OnOk r B → (A → B → D) → OnOk r D
on_ok (Ok x) a b f = f a b
on_ok (Err e) a b f = tt

pub on_ok_one : {X E : Type 0} {A D : Type 0} (r : Result X E) → OnOk r A → (A → D) → OnOk r D
on_ok_one (Ok x) a f = f a
on_ok_one (Err e) a f = tt

pub on_any : {X E : Type 0} {D : Type 0} (r : Result X E) → D → OnOk r D
on_any (Ok x) d = d
on_any (Err e) d = tt

-- the names of the columns
pub names_first : (o : Output) (count : ℕ) → (o.decoded && count == 0) ≡ true → names_behind o count ≡ columns_line o.shown
unfolding names_behind
names_first o count is = ap (λ (b : Bool). cond b (columns_line o.shown) []) is

pub names_none : (o : Output) (count : ℕ) → (o.decoded && count == 0) ≡ false → names_behind o count ≡ []
unfolding names_behind
names_none o count is = ap (λ (b : Bool). cond b (columns_line o.shown) []) is

-- the line of a message that is decoded, and that of one that is not
pub line_decoded : (o : Output) (place : Place) (m : Recorded) → o.decoded ≡ true → line_of o place m ≡ message_line_with o.signals.now o.shown place m
line_decoded o place m is = ap (λ (b : Bool). cond b (message_line_with o.signals.now o.shown place m) (message_line place.number place.channel (dumped m))) is

pub line_dumped : (o : Output) (place : Place) (m : Recorded) → o.decoded ≡ false → line_of o place m ≡ message_line place.number place.channel (dumped m)
line_dumped o place m is = ap (λ (b : Bool). cond b (message_line_with o.signals.now o.shown place m) (message_line place.number place.channel (dumped m))) is

-- whether the next message is chosen
pub chosen_is : (s : Selection) (history : List Viewed) (h : Viewed) (number : ℕ) (told b : Bool) → number ≡ length history + 1 → told ≡ selects s number h.0 h.1 → told ≡ b → is_chosen s (told_next history h) ≡ b
chosen_is s history h number told b from is so = ap (λ (n : ℕ). selects s n h.0 h.1) (sym from) ∙ sym is ∙ so

-- where a message stands
pub same_place : (place : Place) (earlier : List Viewed) (h : Viewed) → place.number ≡ (told_next earlier h).number → place.channel ≡ h.0 → place.in_channel ≡ (told_next earlier h).in_channel → place ≡ place_of (told_next earlier h)
same_place place earlier h number channel in_channel =
    ap (λ (x : ℕ). record { number = x; channel = place.channel; in_channel = place.in_channel }) number
    ∙ ap (λ (x : ℕ). record { number = (told_next earlier h).number; channel = x; in_channel = place.in_channel }) channel
    ∙ ap (λ (x : ℕ). record { number = (told_next earlier h).number; channel = h.0; in_channel = x }) in_channel

-- the lines of the next message
lines_of_one : (o : Output) (earlier : List Viewed) (h : Viewed) → is_chosen o.selection (told_next earlier h) ≡ true → lines_next o earlier (h ∷ []) ≡ names_behind o (length (chosen o.selection earlier)) ++ line_of o (place_of (told_next earlier h)) h.1
lines_of_one o earlier h is =
    ap (lines_behind o (length (chosen o.selection earlier))) (next_chosen o.selection earlier h is)
    ∙ ap (λ (l : List ℕ). names_behind o (length (chosen o.selection earlier)) ++ l) (append-nil (line_of o (place_of (told_next earlier h)) h.1))

one_more : (o : Output) (earlier : List Viewed) (h : Viewed) → is_chosen o.selection (told_next earlier h) ≡ true → length (chosen o.selection earlier) + 1 ≡ length (chosen o.selection (h ∷ earlier))
one_more o earlier h is = ap (λ (ts : List Told). length (chosen o.selection earlier) + length ts) (sym (next_chosen o.selection earlier h is)) ∙ count_then o.selection earlier h

-- the next message is chosen, and was printed
pub one_printed : (o : Output) (history : List Viewed) (h : Viewed) (got gets : Option (List ℕ)) (before after : Printing) (place : Place) → IsBehind o history before → length history + 1 < 2 ^ 64 → is_chosen o.selection (told_next history h) ≡ true
    → place ≡ place_of (told_next history h) → IsPut got before.line gets after.line (names_behind o before.count ++ line_of o place h.1) → (before.count + 1 < 2 ^ 64 → after.count ≡ before.count + 1)
    → AreCounts (h.0 ∷ channels_of history) after.numbers.counts.items → HavePrinted o history (h ∷ []) got before gets after
one_printed o history h got gets before after place b below is there put count counts =
    let few = few_chosen o.selection history in
    let line : names_behind o before.count ++ line_of o place h.1 ≡ lines_next o history (h ∷ []) =
    ap (λ (n : ℕ). names_behind o n ++ line_of o place h.1) b.count ∙ ap (λ (x : Place). names_behind o (length (chosen o.selection history)) ++ line_of o x h.1) there ∙ sym (lines_of_one o history h is) in
    record {
      put = subst (IsPut got before.line gets after.line) line put;
      kept = record {
        counts = counts;
        count = count (omega (arith, b.count, few, below)) ∙ ap (λ (n : ℕ). n + 1) b.count ∙ one_more o history h is;
        shown = put.shown ∙ b.shown;
      };
    }

-- it is not chosen
pub none_printed : (o : Output) (history : List Viewed) (h : Viewed) (got : Option (List ℕ)) (before after : Printing) → IsBehind o history before → is_chosen o.selection (told_next history h) ≡ false → after.line ≡ before.line → after.count ≡ before.count
    → AreCounts (h.0 ∷ channels_of history) after.numbers.counts.items → HavePrinted o history (h ∷ []) got before got after
none_printed o history h got before after b is line count counts =
    let none = next_left_out o.selection history h is in
    let zero : length (chosen o.selection history) ≡ length (chosen o.selection (h ∷ history)) = omega (arith, count_then o.selection history h, ap length none) in
    let empty : [] ≡ lines_next o history (h ∷ []) = sym (ap (lines_behind o (length (chosen o.selection history))) none) in
    record {
      put = subst (IsPut got before.line got after.line) empty (subst (λ (w : Waiting). IsPut got before.line got w []) (sym line) (put-none got before.line));
      kept = record { counts = counts; count = count ∙ b.count ∙ zero; shown = ap (λ (w : Waiting). w.shown) line ∙ b.shown };
    }

-- the messages of a packet so far were printed, and these are left
pub record ArePassed (o : Output) (kind : StampKind) (channel : ℕ) (history : List Viewed) (all rest : List Message) (got : Option (List ℕ)) (before : Printing) (gets : Option (List ℕ)) (now : Printing) : Type 0 where
  pub passed : List Viewed
  pub kept : IsBehind o passed now
  pub more : List ℕ
  pub put : IsPut got before.line gets now.line more
  pub lines : more ++ lines_next o passed (map (with_channel kind channel) rest) ≡ lines_next o history (map (with_channel kind channel) all)
  pub whole : reverse (map (with_channel kind channel) rest) ++ passed ≡ reverse (map (with_channel kind channel) all) ++ history

pub passed_none : (o : Output) (kind : StampKind) (channel : ℕ) (history : List Viewed) (all : List Message) (got : Option (List ℕ)) (before : Printing) → IsBehind o history before → ArePassed o kind channel history all all got before got before
passed_none o kind channel history all got before b = record { passed = history; kept = b; more = []; put = put-none got before.line; lines = refl; whole = refl }

-- how many were passed
pub passed_count : (o : Output) (kind : StampKind) (channel : ℕ) (history : List Viewed) (all rest : List Message) (got : Option (List ℕ)) (before : Printing) (gets : Option (List ℕ)) (now : Printing)
    → (p : ArePassed o kind channel history all rest got before gets now) → length rest + length p.passed ≡ length all + length history
passed_count o kind channel history all rest got before gets now p =
    let vs = map (with_channel kind channel) rest in
    let ws = map (with_channel kind channel) all in
    omega (
      arith,
      length-append (reverse vs) p.passed,
      length-reverse vs,
      length-map rest (with_channel kind channel),
      length-append (reverse ws) history,
      length-reverse ws,
      length-map all (with_channel kind channel),
      ap length p.whole,
    )

pub passed_more : (o : Output) (kind : StampKind) (channel : ℕ) (history : List Viewed) (all rest others : List Message) (m : Message) (got mid gets : Option (List ℕ)) (before now next : Printing)
    → (p : ArePassed o kind channel history all rest got before mid now) → rest ≡ m ∷ others → HavePrinted o p.passed ((channel, recorded kind m) ∷ []) mid now gets next → ArePassed o kind channel history all others got before gets next
passed_more o kind channel history all rest others m got mid gets before now next p is printed =
    let h : Viewed = (channel, recorded kind m) in
    let vs = map (with_channel kind channel) others in
    record {
      passed = h ∷ p.passed;
      kept = printed.kept;
      more = p.more ++ lines_next o p.passed (h ∷ []);
      put = put-then got mid gets before.line now.line next.line p.more (lines_next o p.passed (h ∷ [])) p.put printed.put;
      lines =
          append_assoc p.more (lines_next o p.passed (h ∷ [])) (lines_next o (h ∷ p.passed) vs)
          ∙ ap (λ (l : List ℕ). p.more ++ l) (sym (lines_then o p.passed vs h))
          ∙ ap (λ (ms : List Message). p.more ++ lines_next o p.passed (map (with_channel kind channel) ms)) (sym is)
          ∙ p.lines;
      whole =
          sym (turned p.passed vs h)
          ∙ ap (λ (ms : List Message). reverse (map (with_channel kind channel) ms) ++ p.passed) (sym is)
          ∙ p.whole;
    }

pub passed_all : (o : Output) (kind : StampKind) (channel : ℕ) (history : List Viewed) (all rest : List Message) (got : Option (List ℕ)) (before : Printing) (gets : Option (List ℕ)) (now : Printing)
    → ArePassed o kind channel history all rest got before gets now → rest ≡ [] → HavePrinted o history (map (with_channel kind channel) all) got before gets now
passed_all o kind channel history all rest got before gets now p none =
    let text : p.more ≡ lines_next o history (map (with_channel kind channel) all) =
    sym (append-nil p.more) ∙ ap (λ (ms : List Message). p.more ++ lines_next o p.passed (map (with_channel kind channel) ms)) (sym none) ∙ p.lines in
    let whole : p.passed ≡ reverse (map (with_channel kind channel) all) ++ history = ap (λ (ms : List Message). reverse (map (with_channel kind channel) ms) ++ p.passed) (sym none) ∙ p.whole in
    record {
      put = subst (IsPut got before.line gets now.line) text p.put;
      kept = subst (λ (hs : List Viewed). IsBehind o hs now) whole p.kept;
    }
