-- Recordings that were printed, packet by packet or stretch by stretch.
use Rattle.std.proofs.Common.{◌≡◌, ℕ, ◌+◌, ◌<◌, ◌^◌, List, [], ◌∷◌, ◌++◌, length, reverse, Option, Some, Ok, refl, ap, sym, subst, ◌∙◌, arith, append_assoc, append-nil}
use Rattle.std.specs.Io.KnownBytes.{Appends}
use Rattle.ch11_reader.specs.declared.packet.Packet.{Packet}
use Rattle.ch11_reader.specs.declared.skip.Skip.{Skip}
use Rattle.ch11_reader.specs.Contents.{total_in}
use Rattle.ch11_reader.specs.Recording.{Found}
use Rattle.ch11_reader.specs.Skipping.{Stretch, Read, Skipped, packets_among, stretches_in}
use Rattle.ch11_reader.proofs.Loop.{in_order}
use Rattle.ch11_reader.proofs.Stretches.{in_turn}
use Rattle.ch11_stream.specs.Reading.{IsEnd, IsStep, Reading, at_start, last_found}
use Rattle.ch11_stream.specs.declared.stretch.Stretch as stretch
use Rattle.ch11_stream.specs.declared.stretch.Stretch.TheVariants as stretches
use Rattle.ch11_stream.specs.Stretches.{IsNextStretch, IsSkip}
use Rattle.ch11_stream.proofs.Skips.{IsBetween, between_end, between_sound, between_skipped, between_start}
use Rattle.bench_dump.proofs.Steps.{appends_both}
use Rattle.bench_dump.specs.SkippingText.{skip_line}
use Rattle.bench_select.specs.Viewed.{viewed_of, Viewed}
use Rattle.bench_select.proofs.Passed.{viewed_count, viewed_more, viewed_so_far}
use Rattle.bench_decode.specs.declared.printing.Output.{Output}
use Rattle.bench_decode.specs.declared.printing.Printing.{Printing}
use Rattle.bench_decode.specs.ByTime.{chosen}
use Rattle.bench_decode.specs.Printed.{AreDecoded, AreDecodedSound, HasPrinted, HavePrinted, IsBehind}
use Rattle.bench_decode.specs.RecordingText.{chosen_in, lines_next, messages_text, stretches_text}
use Rattle.bench_decode.specs.Waiting.{IsPut, Waiting, no_lines}
use Rattle.bench_decode.proofs.ChosenLines.{text_then}
use Rattle.bench_decode.proofs.Wording.{put-none, put-then}

-- lines that waited behind none were handed on
pub handed_on : (got mid gets : Option (List ℕ)) (before after : Waiting) (text : List ℕ) → before.text ≡ [] → IsPut got before mid after text → Appends mid gets after.text → Appends got gets text
handed_on got mid gets before after text none put gone =
    subst (Appends got gets) (put.carried.kept ∙ ap (λ (l : List ℕ). l ++ text) none) (appends_both got mid gets put.carried.sent after.text put.carried.taken gone)

-- so many messages stand before the packet that was read
pub before_step : (before now : Reading) (p : Packet) → IsStep before now p → p.before ≡ length (viewed_so_far before.earlier)
before_step before now p s = ap (λ (x : Packet). x.before) s.listed ∙ sym (viewed_count before.earlier)

pub few_step : (before now : Reading) (p : Packet) → IsStep before now p → p.before + length now.given < 2 ^ 64
few_step before now p s =
    let front : p.before ≡ total_in before.earlier = ap (λ (x : Packet). x.before) s.listed in
    let few : length now.given + total_in before.earlier < 2 ^ 64 = rw s.entered at s.few in
    omega (arith, front, few)

-- ---- the packets so far, newest first, were printed

pub record ArePrinted (o : Output) (earlier : List Found) (got : Option (List ℕ)) (gets : Option (List ℕ)) (now : Printing) : Type 0 where
  pub kept : IsBehind o (viewed_so_far earlier) now
  pub put : IsPut got (no_lines o.shown) gets now.line (messages_text o (chosen o.selection (viewed_so_far earlier)))

pub printed_none : (o : Output) (got : Option (List ℕ)) (now : Printing) → IsBehind o [] now → now.line ≡ no_lines o.shown → ArePrinted o [] got got now
printed_none o got now b line = record { kept = b; put = subst (λ (w : Waiting). IsPut got (no_lines o.shown) got w []) (sym line) (put-none got (no_lines o.shown)) }

pub printed_more : (o : Output) (got mid gets : Option (List ℕ)) (q : Found) (earlier : List Found) (before after : Printing) → ArePrinted o earlier got mid before → HavePrinted o (viewed_so_far earlier) (viewed_of q) mid before gets after
    → ArePrinted o (q ∷ earlier) got gets after
printed_more o got mid gets q earlier before after a printed =
    let whole : reverse (viewed_of q) ++ viewed_so_far earlier ≡ viewed_so_far (q ∷ earlier) = viewed_more q earlier in
    let text : messages_text o (chosen o.selection (viewed_so_far earlier)) ++ lines_next o (viewed_so_far earlier) (viewed_of q) ≡ messages_text o (chosen o.selection (viewed_so_far (q ∷ earlier))) =
    sym (text_then o (viewed_so_far earlier) (viewed_of q)) ∙ ap (λ (hs : List Viewed). messages_text o (chosen o.selection hs)) whole in
    record {
      kept = subst (λ (hs : List Viewed). IsBehind o hs after) whole printed.kept;
      put = subst (IsPut got (no_lines o.shown) gets after.line) text
          (put-then got mid gets (no_lines o.shown) before.line after.line (messages_text o (chosen o.selection (viewed_so_far earlier))) (lines_next o (viewed_so_far earlier) (viewed_of q)) a.put printed.put);
    }

pub all_decoded : (o : Output) (got mid gets : Option (List ℕ)) (earlier ps : List Found) (now : Printing) → ArePrinted o earlier got mid now → Appends mid gets now.line.text → reverse earlier ≡ ps → AreDecoded o got gets ps now.count
all_decoded o got mid gets earlier ps now a gone found =
    subst (λ (qs : List Found). AreDecoded o got gets qs now.count) found
    (record { written = handed_on got mid gets (no_lines o.shown) now.line (messages_text o (chosen_in o (reverse earlier))) refl a.put gone; counted = a.kept.count })

-- ---- the stretches so far, newest first, were printed

pub record IsPrinted (o : Output) (file : List ℕ) (got gets : Option (List ℕ)) (printing : Printing) (now : Reading) : Type 0 where
  pub earlier : List Stretch
  pub between : IsBetween file now earlier
  pub kept : IsBehind o (viewed_so_far now.earlier) printing
  pub more : List ℕ
  pub put : IsPut got (no_lines o.shown) gets printing.line more
  pub lines : (others : List Stretch) → more ++ stretches_text o (viewed_so_far now.earlier) others ≡ stretches_text o [] (in_turn earlier others)

pub stretches_none : (o : Output) (file : List ℕ) (got : Option (List ℕ)) (printing : Printing) → IsBehind o [] printing → printing.line ≡ no_lines o.shown → IsPrinted o file got got printing (at_start (Some file))
stretches_none o file got printing b line = record {
  earlier = [];
  between = between_start file;
  kept = b;
  more = [];
  put = subst (λ (w : Waiting). IsPut got (no_lines o.shown) got w []) (sym line) (put-none got (no_lines o.shown));
  lines = λ others. refl;
}

pub sound_more : (o : Output) (file : List ℕ) (got mid gets : Option (List ℕ)) (printing after : Printing) (before now : Reading) (p : Packet) → IsStep before now p → IsPrinted o file got mid printing before
    → HavePrinted o (viewed_so_far before.earlier) (viewed_of (last_found now p)) mid printing gets after → IsPrinted o file got gets after now
sound_more o file got mid gets printing after before now p s g printed =
    let q : Found = last_found now p in
    let whole : reverse (viewed_of q) ++ viewed_so_far before.earlier ≡ viewed_so_far now.earlier = viewed_more q before.earlier ∙ ap viewed_so_far (sym s.entered) in
    let line : List ℕ = lines_next o (viewed_so_far before.earlier) (viewed_of q) in
    record {
      earlier = Read q ∷ g.earlier;
      between = between_sound file before now g.earlier p s g.between;
      kept = subst (λ (hs : List Viewed). IsBehind o hs after) whole printed.kept;
      more = g.more ++ line;
      put = put-then got mid gets (no_lines o.shown) printing.line after.line g.more line g.put printed.put;
      lines = λ others.
          append_assoc g.more line (stretches_text o (viewed_so_far now.earlier) others)
          ∙ ap (λ (hs : List Viewed). g.more ++ (line ++ stretches_text o hs others)) (sym whole)
          ∙ g.lines (Read q ∷ others);
    }

pub skip_more : (o : Output) (file : List ℕ) (got mid gets : Option (List ℕ)) (printing after : Printing) (before now : Reading) (k : Skip) → IsSkip before now k → IsPrinted o file got mid printing before
    → IsPut mid printing.line gets after.line (skip_line k) → IsBehind o (viewed_so_far before.earlier) after → IsPrinted o file got gets after now
skip_more o file got mid gets printing after before now k s g put kept = record {
  earlier = Skipped k ∷ g.earlier;
  between = between_skipped file before now g.earlier k s g.between;
  kept = subst (λ (ps : List Found). IsBehind o (viewed_so_far ps) after) (sym s.same) kept;
  more = g.more ++ skip_line k;
  put = put-then got mid gets (no_lines o.shown) printing.line after.line g.more (skip_line k) g.put put;
  lines = λ others.
      append_assoc g.more (skip_line k) (stretches_text o (viewed_so_far now.earlier) others)
      ∙ ap (λ (ps : List Found). g.more ++ (skip_line k ++ stretches_text o (viewed_so_far ps) others)) s.same
      ∙ g.lines (Skipped k ∷ others);
}

pub stretch_more : (o : Output) (file : List ℕ) (got mid gets : Option (List ℕ)) (printing after : Printing) (before now : Reading) (s : stretch.Stretch) → IsNextStretch (Ok (Some s)) before now → IsPrinted o file got mid printing before
    → HasPrinted o (viewed_so_far before.earlier) s now.given mid printing gets after → IsPrinted o file got gets after now
stretch_more o file got mid gets printing after before now (stretches.Sound p) s g printed = sound_more o file got mid gets printing after before now p s g (printed (before_step before now p s))
stretch_more o file got mid gets printing after before now (stretches.Skipped k) s g printed = skip_more o file got mid gets printing after before now k s g printed.0 printed.1

packets_in_turn : (earlier others : List Stretch) → packets_among (in_turn earlier others) ≡ in_order (packets_among earlier) (packets_among others)
packets_in_turn [] others = refl
packets_in_turn (Read p ∷ earlier) others = packets_in_turn earlier (Read p ∷ others)
packets_in_turn (Skipped s ∷ earlier) others = packets_in_turn earlier (Skipped s ∷ others)

pub all_sound : (o : Output) (file : List ℕ) (got mid gets : Option (List ℕ)) (printing : Printing) (now last : Reading) → IsEnd now last → IsPrinted o file got mid printing now → Appends mid gets printing.line.text
    → AreDecodedSound o got gets (stretches_in file) printing.count
all_sound o file got mid gets printing now last e g gone =
    let whole : stretches_in file ≡ in_turn g.earlier [] = between_end file now last g.earlier e g.between in
    let text : g.more ≡ stretches_text o [] (stretches_in file) = sym (append-nil g.more) ∙ g.lines [] ∙ ap (stretches_text o []) (sym whole) in
    let order : in_order now.earlier [] ≡ reverse now.earlier = refl in
    let packets : reverse now.earlier ≡ packets_among (stretches_in file) =
    sym (ap packets_among whole ∙ packets_in_turn g.earlier [] ∙ ap (λ (ps : List Found). in_order ps []) g.between.packets ∙ order) in
    record {
      written = subst (Appends got gets) text (handed_on got mid gets (no_lines o.shown) printing.line g.more refl g.put gone);
      counted = g.kept.count ∙ ap (λ (ps : List Found). length (chosen_in o ps)) packets;
    }
