-- Skips, and messages in the order of their stamps, printed one after the other.
use Rattle.std.proofs.Common.{◌≡◌, ℕ, ◌+◌, ◌<◌, ◌≤◌, ◌^◌, List, [], ◌∷◌, ◌++◌, length, take, Option, Ok, Err, refl, ap, sym, subst, ◌∙◌, arith, append_assoc, append-nil, length-append}
use Rattle.std.specs.Prelude.{map}
use Rattle.std.proofs.lemmas.List.{length-map, length-take-le, map-append, take_all}
use Rattle.std.specs.Io.KnownBytes.{Appends}
use Rattle.ch11_f1.specs.Views.{message_of}
use Rattle.ch11_layout.specs.Stamps.{recorded}
use Rattle.ch11_reader.specs.Indexed.{found_in}
use Rattle.ch11_reader.specs.Recording.{Found, ReadsRecording, found_or_none, packets_in}
use Rattle.ch11_reader.specs.declared.error.ReadError.{ReadError}
use Rattle.ch11_reader.specs.declared.error.ReadError.TheVariants.{Memory, Refused}
use Rattle.ch11_stream.specs.Feeding.{fault_of_reading}
use Rattle.ch11_stream.specs.Folding.{IsFaultOf}
use Rattle.ch11_reader.specs.declared.skip.Skip.{Skip}
use Rattle.bench_dump.specs.SkippingText.{skip_line, skip_lines}
use Rattle.bench_decode.specs.declared.chosen.Chosen.{Chosen}
use Rattle.bench_decode.specs.declared.printing.Output.{Output}
use Rattle.bench_decode.specs.declared.printing.Printing.{Printing}
use Rattle.bench_decode.specs.ByTime.{told_of}
use Rattle.bench_decode.specs.Printed.{AreDecodedByTime, AreSorted}
use Rattle.bench_decode.specs.RecordingText.{chosen_in, line_of, lines_behind, messages_text, names_behind}
use Rattle.bench_decode.specs.Waiting.{IsPut, Waiting, no_lines}
use Rattle.bench_decode.proofs.ChosenLines.{lines_both}
use Rattle.bench_decode.proofs.Recordings.{handed_on}
use Rattle.bench_decode.proofs.Wording.{put-none, put-then}

-- the lines of some skips were put, and those of these are left
pub record AreSkipped (got : Option (List ℕ)) (before : Waiting) (gets : Option (List ℕ)) (after : Waiting) (all rest : List Skip) : Type 0 where
  pub more : List ℕ
  pub put : IsPut got before gets after more
  pub whole : more ++ skip_lines rest ≡ skip_lines all

pub skipped_none : (got : Option (List ℕ)) (w : Waiting) (all : List Skip) → AreSkipped got w got w all all
skipped_none got w all = record { more = []; put = put-none got w; whole = refl }

pub skipped_more : (got mid gets : Option (List ℕ)) (before between after : Waiting) (all rest others : List Skip) (s : Skip) → AreSkipped got before mid between all rest → rest ≡ s ∷ others → IsPut mid between gets after (skip_line s) → AreSkipped got before gets after all others
skipped_more got mid gets before between after all rest others s p is put = record {
  more = p.more ++ skip_line s;
  put = put-then got mid gets before between after p.more (skip_line s) p.put put;
  whole = append_assoc p.more (skip_line s) (skip_lines others) ∙ ap (λ (ss : List Skip). p.more ++ skip_lines ss) (sym is) ∙ p.whole;
}

pub skipped_all : (got gets : Option (List ℕ)) (before after : Waiting) (all rest : List Skip) → AreSkipped got before gets after all rest → length rest ≡ 0 → IsPut got before gets after (skip_lines all)
skipped_all got gets before after all [] p none = subst (IsPut got before gets after) (sym (append-nil p.more) ∙ p.whole) p.put
skipped_all got gets before after all (s ∷ rest) p none = absurd (omega arith)

-- the messages in front of a place were printed
pub record AreGoing (o : Output) (all : List Chosen) (place : ℕ) (got : Option (List ℕ)) (before : Printing) (gets : Option (List ℕ)) (now : Printing) : Type 0 where
  pub put : IsPut got before.line gets now.line (messages_text o (map told_of (take place all)))
  pub count : now.count ≡ length (take place all)
  pub shown : now.line.shown ≡ o.shown

pub going_none : (o : Output) (all : List Chosen) (got : Option (List ℕ)) (before : Printing) → before.count ≡ 0 → before.line.shown ≡ o.shown → AreGoing o all 0 got before got before
going_none o all got before none shown = record { put = put-none got before.line; count = none; shown = shown }

-- the lines of one message more
one_behind : (o : Output) (chosen : List Chosen) (one : Chosen) (count : ℕ) → count ≡ length chosen
    → messages_text o (map told_of (chosen ++ one ∷ [])) ≡ messages_text o (map told_of chosen) ++ (names_behind o count ++ line_of o one.place (recorded one.kind (message_of one.seen)))
one_behind o chosen one count is =
    let line : List ℕ = line_of o one.place (recorded one.kind (message_of one.seen)) in
    let front : List ℕ = messages_text o (map told_of chosen) in
    let many : 0 + length (map told_of chosen) ≡ count = omega (arith, is, length-map chosen told_of) in
    ap (messages_text o) (map-append told_of chosen (one ∷ []))
    ∙ lines_both o 0 (map told_of chosen) (told_of one ∷ [])
    ∙ ap (λ (n : ℕ). front ++ lines_behind o n (told_of one ∷ [])) many
    ∙ ap (λ (l : List ℕ). front ++ (names_behind o count ++ l)) (append-nil line)

pub going_more : (o : Output) (all : List Chosen) (place : ℕ) (one : Chosen) (got mid gets : Option (List ℕ)) (before now next : Printing) → length all < 2 ^ 64 → place < length all → take (place + 1) all ≡ take place all ++ one ∷ []
    → AreGoing o all place got before mid now → IsPut mid now.line gets next.line (names_behind o now.count ++ line_of o one.place (recorded one.kind (message_of one.seen))) → (now.count + 1 < 2 ^ 64 → next.count ≡ now.count + 1)
    → AreGoing o all (place + 1) got before gets next
going_more o all place one got mid gets before now next few within is g put count =
    let line : List ℕ = names_behind o now.count ++ line_of o one.place (recorded one.kind (message_of one.seen)) in
    let counts : next.count ≡ now.count + 1 = count (omega (arith, few, within, g.count, length-take-le place all (omega (arith, within)))) in
    let text : messages_text o (map told_of (take (place + 1) all)) ≡ messages_text o (map told_of (take place all)) ++ line =
    ap (λ (cs : List Chosen). messages_text o (map told_of cs)) is ∙ one_behind o (take place all) one now.count g.count in
    record {
      put = subst (IsPut got before.line gets next.line) (sym text) (put-then got mid gets before.line now.line next.line (messages_text o (map told_of (take place all))) line g.put put);
      count = omega (arith, counts, g.count, ap length is, length-append (take place all) (one ∷ []));
      shown = put.shown ∙ g.shown;
    }

pub going_all : (o : Output) (all : List Chosen) (place : ℕ) (got : Option (List ℕ)) (before : Printing) (gets : Option (List ℕ)) (now : Printing) → AreGoing o all place got before gets now → length all ≤ place
    → IsPut got before.line gets now.line (messages_text o (map told_of all)) × (now.count ≡ length all)
going_all o all place got before gets now g past =
    let whole : take place all ≡ all = take_all place all past in (
      subst (λ (cs : List Chosen). IsPut got before.line gets now.line (messages_text o (map told_of cs))) whole g.put,
      g.count ∙ ap length whole,
    )

-- the fault of a recording that is read whole
pub fault_found : (file : List ℕ) (e : ReadError) → ReadsRecording (Err e) (packets_in file) → IsFaultOf file (fault_of_reading e)
fault_found file (Refused r) is = is
fault_found file Memory is = tt

-- its packets
pub found_whole : (file : List ℕ) (ps : List Found) → packets_in file ≡ Ok ps → ps ≡ found_in file
found_whole file ps is = sym (ap found_or_none is)

-- skips were printed, and then messages
pub all_by_time : (o : Output) (got first second gets : Option (List ℕ)) (skips : List Skip) (ps : List Found) (begun skipped : Waiting) (before printed : Printing) → begun ≡ no_lines o.shown → IsPut got begun first skipped (skip_lines skips) → before.line ≡ skipped
    → AreSorted o (chosen_in o ps) first before second printed → Appends second gets printed.line.text → AreDecodedByTime o got gets skips ps printed.count
all_by_time o got first second gets skips ps begun skipped before printed none skip same a gone =
    let text : List ℕ = messages_text o (map told_of a.sorted) in
    let sorted : IsPut first skipped second printed.line text = subst (λ (w : Waiting). IsPut first w second printed.line text) same a.put in
    record {
      sorted = a.sorted;
      order = a.order;
      written = handed_on got second gets begun printed.line (skip_lines skips ++ text) (ap (λ (w : Waiting). w.text) none)
          (put-then got first second begun skipped printed.line (skip_lines skips) text skip sorted) gone;
      counted = a.count;
    }
