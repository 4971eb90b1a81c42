-- A draft says the lines that it took in.
use Rattle.std.proofs.Common.{◌≡◌, ℕ, List, [], ◌∷◌, ◌++◌, refl, ap, sym, ◌∙◌, append-nil, append_assoc}
use Rattle.std.specs.Prelude.{Bool, true, false, ◌&&◌, map, nat_lt, nat_le, Option, Some, None, IsSome}
use Rattle.std.specs.List.{flat_map}
use Rattle.std.proofs.lemmas.Grind.{flat_map-append}
use Rattle.std.proofs.lemmas.List.{map-append}
use Rattle.bc_machine.specs.declared.placed.Placed.{Placed}
use Rattle.text_lines.specs.Words.{Text}
use Rattle.bench_report.specs.Reports.{ChannelPart, RunReport}
use Rattle.bench_report.specs.Lines.{said}
use Rattle.bench_report.specs.Spelling.{part_lines, report_lines, Spells}
use Rattle.text_lines.specs.Lines.{text_lines}
use Rattle.bench_report.specs.Drafts.{Draft, no_lines, with_line, with_line_said, with_lines, option_bind, finished, report_at, with_refused, with_placed, in_body, last_number, numbers}
use Rattle.bench_report.specs.declared.lines.ReportLine.{ReportLine}
use Rattle.bench_report.specs.declared.lines.ReportLine.TheVariants as line
use Rattle.bench_report.specs.declared.stages.Stage.{Stage}
use Rattle.bench_report.specs.declared.stages.Stage.TheVariants.{Begin, Named, Body, End}

abbrev pub stage_lines : Stage → List ReportLine
stage_lines Begin = []
stage_lines (Named channel) = line.Channel channel ∷ []
stage_lines (Body p) = part_lines p
stage_lines (End packets) = line.Packets packets ∷ []

-- the lines of a draft
abbrev pub draft_lines : Draft → List ReportLine
draft_lines d = flat_map part_lines d.done ++ stage_lines d.stage

abbrev lines_or_none : Option Draft → List ReportLine
lines_or_none None = []
lines_or_none (Some d) = draft_lines d

behind_begin : (done : List ChannelPart) (l : ReportLine) → flat_map part_lines done ++ l ∷ [] ≡ (flat_map part_lines done ++ []) ++ l ∷ []
behind_begin done l = rw (append-nil (flat_map part_lines done)) refl

behind_body : (done : List ChannelPart) (p : ChannelPart) (l : ReportLine) → flat_map part_lines (done ++ p ∷ []) ++ l ∷ [] ≡ (flat_map part_lines done ++ part_lines p) ++ l ∷ []
behind_body done p l = rw (flat_map-append part_lines done (p ∷ []), append-nil (part_lines p)) refl

refused_step : (done : List ChannelPart) (p : ChannelPart) (n : ℕ) → IsSome (in_body done (with_refused p n))
    → lines_or_none (in_body done (with_refused p n)) ≡ (flat_map part_lines done ++ part_lines p) ++ line.Refused n ∷ []
refused_step done p n some = go p.placed (nat_lt (last_number 0 p.refused) n && nat_le n p.made) refl some
  where
    go : (placed : List Placed) (b : Bool) → (nat_lt (last_number 0 p.refused) n && nat_le n p.made) ≡ b
        → IsSome (in_body done (with_refused (record { channel = p.channel; made = p.made; refused = p.refused; placed = placed }) n))
        → lines_or_none (in_body done (with_refused (record { channel = p.channel; made = p.made; refused = p.refused; placed = placed }) n))
        ≡ (flat_map part_lines done ++ part_lines (record { channel = p.channel; made = p.made; refused = p.refused; placed = placed })) ++ line.Refused n ∷ []
    go [] true is some =
        rw (
          is,
          map-append line.Refused p.refused (n ∷ []),
          append-nil (map line.Refused p.refused ++ line.Refused n ∷ []),
          append-nil (map line.Refused p.refused),
          append_assoc (flat_map part_lines done) (line.Channel p.channel ∷ line.Made p.made ∷ map line.Refused p.refused) (line.Refused n ∷ []),
        ) refl
    go [] false is some = let wrong : IsSome (in_body done None) = rw is at some in cc
    go (x ∷ placed) b is some = cc

placed_step : (done : List ChannelPart) (p : ChannelPart) (x : Placed) → IsSome (in_body done (with_placed p x))
    → lines_or_none (in_body done (with_placed p x)) ≡ (flat_map part_lines done ++ part_lines p) ++ line.Placed x ∷ []
placed_step done p x some = go (nat_le (last_number 0 (numbers p.placed)) x.number) refl some
  where
    go : (b : Bool) → nat_le (last_number 0 (numbers p.placed)) x.number ≡ b → IsSome (in_body done (with_placed p x))
        → lines_or_none (in_body done (with_placed p x)) ≡ (flat_map part_lines done ++ part_lines p) ++ line.Placed x ∷ []
    go true is some =
        rw (
          is,
          map-append line.Placed p.placed (x ∷ []),
          append_assoc (flat_map part_lines done) (part_lines p) (line.Placed x ∷ []),
          append_assoc (map line.Refused p.refused) (map line.Placed p.placed) (line.Placed x ∷ []),
        ) refl
    go false is some = let wrong : IsSome (in_body done None) = rw is at some in cc

one_step : (done : List ChannelPart) (stage : Stage) (l : ReportLine) → IsSome (with_line (record { done = done; stage = stage }) l)
    → lines_or_none (with_line (record { done = done; stage = stage }) l) ≡ (flat_map part_lines done ++ stage_lines stage) ++ l ∷ []
one_step done Begin (line.Channel n) some = behind_begin done (line.Channel n)
one_step done (Body p) (line.Channel n) some = behind_body done p (line.Channel n)
one_step done (Named c) (line.Channel n) some = cc
one_step done (End k) (line.Channel n) some = cc
one_step done Begin (line.Packets n) some = behind_begin done (line.Packets n)
one_step done (Body p) (line.Packets n) some = behind_body done p (line.Packets n)
one_step done (Named c) (line.Packets n) some = cc
one_step done (End k) (line.Packets n) some = cc
one_step done Begin (line.Made n) some = cc
one_step done (Named c) (line.Made n) some = sym (append_assoc (flat_map part_lines done) (line.Channel c ∷ []) (line.Made n ∷ []))
one_step done (Body p) (line.Made n) some = cc
one_step done (End k) (line.Made n) some = cc
one_step done Begin (line.Refused n) some = cc
one_step done (Named c) (line.Refused n) some = cc
one_step done (Body p) (line.Refused n) some = refused_step done p n some
one_step done (End k) (line.Refused n) some = cc
one_step done Begin (line.Placed x) some = cc
one_step done (Named c) (line.Placed x) some = cc
one_step done (Body p) (line.Placed x) some = placed_step done p x some
one_step done (End k) (line.Placed x) some = cc

pub next_lines : (d d' : Draft) (l : ReportLine) → with_line d l ≡ Some d' → draft_lines d' ≡ draft_lines d ++ l ∷ []
next_lines d d' l is =
    let some : IsSome (with_line d l) = rw is refl in
    let says : lines_or_none (with_line d l) ≡ draft_lines d' = rw is refl in
    sym says ∙ one_step d.done d.stage l some

-- the lines that were taken in, and what they say
pub record AreSaid (texts : List Text) (d d' : Draft) : Type 0 where
  pub lines : List ReportLine
  pub are : map said texts ≡ map Some lines
  pub behind : draft_lines d' ≡ draft_lines d ++ lines

pub are_said : (texts : List Text) (d d' : Draft) → with_lines texts d ≡ Some d' → AreSaid texts d d'
are_said [] d d' is =
    let same : draft_lines d ≡ draft_lines d' = ap lines_or_none is in
    record { lines = []; are = refl; behind = sym same ∙ sym (append-nil (draft_lines d)) }
are_said (text ∷ texts) d d' is = go (said text) refl is (are_said texts)
  where
    go : (m : Option ReportLine) → said text ≡ m → option_bind (with_line_said d m) (with_lines texts) ≡ Some d'
        → ((e e' : Draft) → with_lines texts e ≡ Some e' → AreSaid texts e e') → AreSaid (text ∷ texts) d d'
    go None says is rest = cc
    go (Some l) says is rest = on (with_line d l) refl is rest
      where
        on : (m : Option Draft) → with_line d l ≡ m → option_bind m (with_lines texts) ≡ Some d'
            → ((e e' : Draft) → with_lines texts e ≡ Some e' → AreSaid texts e e') → AreSaid (text ∷ texts) d d'
        on None step is rest = cc
        on (Some e) step is rest =
            let more = rest e d' is in
            record {
              lines = l ∷ more.lines;
              are = rw (says, more.are) refl;
              behind = more.behind ∙ (rw (next_lines d e l step) (append_assoc (draft_lines d) (l ∷ []) more.lines));
            }

abbrev report_lines_or : Option RunReport → List ReportLine
report_lines_or None = []
report_lines_or (Some r) = report_lines r

finished_lines : (done : List ChannelPart) (stage : Stage) (r : RunReport) → report_at done stage ≡ Some r → report_lines r ≡ draft_lines (record { done = done; stage = stage })
finished_lines done Begin r is = cc
finished_lines done (Named c) r is = cc
finished_lines done (Body p) r is = cc
finished_lines done (End packets) r is = sym (ap report_lines_or is)

-- a finished draft of all lines of a text is the report that the text spells
pub spelled : (text : Text) (d : Draft) (r : RunReport) → with_lines (text_lines text) no_lines ≡ Some d → finished d ≡ Some r → Spells text r
unfolding Spells
spelled text d r all ends =
    let said_all = are_said (text_lines text) no_lines d all in
    let lines : report_lines r ≡ said_all.lines = finished_lines d.done d.stage r ends ∙ said_all.behind in
    rw lines said_all.are
