-- A draft takes in the lines of every report.
use Rattle.std.proofs.Common.{◌≡◌, ℕ, List, [], ◌∷◌, ◌++◌, refl, ap, arith, sym, ◌∙◌, append-nil, append_assoc, All}
use Rattle.std.specs.Prelude.{true, map, nat_lt, nat_le, Option, Some, None}
use Rattle.std.specs.List.{flat_map}
use Rattle.std.proofs.lemmas.Bool.Decides.{nat_tests}
use Rattle.std.proofs.lemmas.List.{map-append}
use Rattle.std.proofs.lemmas.List.Elements.{All-tail}
use Rattle.bc_machine.specs.declared.placed.Placed.{Placed}
use Rattle.text_lines.specs.Words.{Text}
use Rattle.bench_report.specs.Reports.{ChannelPart, RunReport, IsReport, Rises, NeverFalls}
use Rattle.bench_report.specs.Faults.{IsInOrder}
use Rattle.bench_report.specs.Lines.{said}
use Rattle.bench_report.specs.Spelling.{part_lines, report_lines, Spells}
use Rattle.text_lines.specs.Lines.{text_lines}
use Rattle.bench_report.specs.Drafts.{Draft, no_lines, with_line, with_lines, option_bind, closed, made_of, last_number, numbers}
use Rattle.bench_report.specs.declared.lines.ReportLine.{ReportLine}
use Rattle.bench_report.specs.declared.lines.ReportLine.TheVariants as line
use Rattle.bench_report.specs.declared.stages.Stage.TheVariants.{Body, End}

-- a draft with more lines
abbrev pub with_all : List ReportLine → Draft → Option Draft
with_all [] d = Some d
with_all (l ∷ ls) d = option_bind (with_line d l) (with_all ls)

abbrev head_or : Option ReportLine → List (Option ReportLine) → Option ReportLine
head_or m [] = m
head_or m (x ∷ xs) = x

abbrev tail_of : List (Option ReportLine) → List (Option ReportLine)
tail_of [] = []
tail_of (x ∷ xs) = xs

-- texts that say lines are taken in as these
pub texts_as_lines : (texts : List Text) (ls : List ReportLine) (d : Draft) → map said texts ≡ map Some ls → with_lines texts d ≡ with_all ls d
texts_as_lines [] [] d are = refl
texts_as_lines [] (l ∷ ls) d are = cc
texts_as_lines (text ∷ texts) [] d are = cc
texts_as_lines (text ∷ texts) (l ∷ ls) d are =
    let first : said text ≡ Some l = ap (head_or None) are in
    let rest : map said texts ≡ map Some ls = ap tail_of are in
    rw first (go (with_line d l) (λ e. texts_as_lines texts ls e rest))
  where
    go : (m : Option Draft) → ((e : Draft) → with_lines texts e ≡ with_all ls e) → option_bind m (with_lines texts) ≡ option_bind m (with_all ls)
    go None same = refl
    go (Some e) same = same e

pub all-append : (xs ys : List ReportLine) (d e : Draft) → with_all xs d ≡ Some e → with_all (xs ++ ys) d ≡ with_all ys e
all-append [] ys d e is = ap (λ (m : Option Draft). option_bind m (with_all ys)) is
all-append (x ∷ xs) ys d e is = go (with_line d x) is (λ f. all-append xs ys f e)
  where
    go : (m : Option Draft) → option_bind m (with_all xs) ≡ Some e → ((f : Draft) → with_all xs f ≡ Some e → with_all (xs ++ ys) f ≡ with_all ys e)
        → option_bind m (with_all (xs ++ ys)) ≡ with_all ys e
    go None is rest = cc
    go (Some f) is rest = rest f is

last-push : (above : ℕ) (ns : List ℕ) (n : ℕ) → last_number above (ns ++ n ∷ []) ≡ n
last-push above [] n = refl
last-push above (m ∷ ns) n = last-push m ns n

abbrev in_part : List ChannelPart → ℕ → ℕ → List ℕ → List Placed → Draft
in_part done channel made refused placed = record { done = done; stage = Body (record { channel = channel; made = made; refused = refused; placed = placed }) }

all_refused : (done : List ChannelPart) (channel made : ℕ) (before ns : List ℕ) → Rises (last_number 0 before) made ns
    → with_all (map line.Refused ns) (in_part done channel made before []) ≡ Some (in_part done channel made (before ++ ns) [])
all_refused done channel made before [] rises = rw (append-nil before) refl
all_refused done channel made before (n ∷ ns) rises =
    let above : nat_lt (last_number 0 before) n ≡ true = grind (arith, nat_tests, rises.0) in
    let within : nat_le n made ≡ true = grind (arith, nat_tests, rises.1) in
    let later : Rises (last_number 0 (before ++ n ∷ [])) made ns = rw (last-push 0 before n) rises.2 in
    rw (above, within) (all_refused done channel made (before ++ n ∷ []) ns later ∙ (rw (append_assoc before (n ∷ []) ns) refl))

last_placed : (before : List Placed) (p : Placed) → last_number 0 (numbers (before ++ p ∷ [])) ≡ p.number
last_placed before p = rw (map-append (λ (q : Placed). q.number) before (p ∷ [])) (last-push 0 (numbers before) p.number)

all_placed : (done : List ChannelPart) (channel made : ℕ) (refused : List ℕ) (before ps : List Placed) → NeverFalls (last_number 0 (numbers before)) ps
    → with_all (map line.Placed ps) (in_part done channel made refused before) ≡ Some (in_part done channel made refused (before ++ ps))
all_placed done channel made refused before [] order = rw (append-nil before) refl
all_placed done channel made refused before (p ∷ ps) order =
    let at_least : nat_le (last_number 0 (numbers before)) p.number ≡ true = grind (arith, nat_tests, order.0) in
    let later : NeverFalls (last_number 0 (numbers (before ++ p ∷ []))) ps = rw (last_placed before p) order.1 in
    rw at_least (all_placed done channel made refused (before ++ p ∷ []) ps later ∙ (rw (append_assoc before (p ∷ []) ps) refl))

-- the lines of a channel, where they may begin
one_part : (d : Draft) (done : List ChannelPart) (p : ChannelPart) → closed d.done d.stage ≡ Some done → IsInOrder p
    → with_all (part_lines p) d ≡ Some (record { done = done; stage = Body p })
one_part d done p free is =
    rw free
    (all-append (map line.Refused p.refused) (map line.Placed p.placed) (in_part done p.channel p.made [] []) (in_part done p.channel p.made p.refused [])
    (all_refused done p.channel p.made [] p.refused is.refused)
    ∙ all_placed done p.channel p.made p.refused [] p.placed is.placed)

-- a draft behind the lines of channels
record IsBehind (ps : List ChannelPart) (d : Draft) (done : List ChannelPart) : Type 0 where
  draft : Draft
  taken : with_all (flat_map part_lines ps) d ≡ Some draft
  free : closed draft.done draft.stage ≡ Some (done ++ ps)

all_parts : (ps : List ChannelPart) (d : Draft) (done : List ChannelPart) → closed d.done d.stage ≡ Some done → All IsInOrder ps → IsBehind ps d done
all_parts [] d done free are = record { draft = d; taken = refl; free = rw (append-nil done) free }
all_parts (p ∷ ps) d done free are =
    let behind = all_parts ps (record { done = done; stage = Body p }) (done ++ p ∷ []) refl (All-tail IsInOrder p ps are) in
    record {
      draft = behind.draft;
      taken = all-append (part_lines p) (flat_map part_lines ps) d (record { done = done; stage = Body p }) (one_part d done p free (are 0 p (omega arith))) ∙ behind.taken;
      free = rw (append_assoc done (p ∷ []) ps) at behind.free;
    }

pub all_lines : (r : RunReport) → All IsInOrder r.channels → with_all (report_lines r) no_lines ≡ Some (record { done = r.channels; stage = End r.packets })
all_lines r is =
    let behind = all_parts r.channels no_lines [] refl is in
    all-append (flat_map part_lines r.channels) (line.Packets r.packets ∷ []) no_lines behind.draft behind.taken ∙ (rw behind.free refl)

-- the channels of a report are in order
pub report_in_order : (r : RunReport) → IsReport r → All IsInOrder r.channels
report_in_order r is = λ k d within. record { refused = (is.parts k d within).refused; placed = (is.parts k d within).order }

-- a text that spells a report makes it
pub made : (text : Text) (r : RunReport) → IsReport r → Spells text r → made_of text ≡ Some r
unfolding Spells
made text r is spells = rw (texts_as_lines (text_lines text) (report_lines r) no_lines spells, all_lines r (report_in_order r is)) refl

-- a text that makes no report spells none
pub spells_none : (text : Text) → made_of text ≡ None → (r : RunReport) → IsReport r → Spells text r → ⊥
spells_none text none r is spells = let wrong : None ≡ Some r = sym none ∙ made text r is spells in cc
