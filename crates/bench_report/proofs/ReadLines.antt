-- The lines of a text that were read, and what the next one is where it is refused.
use Rattle.std.proofs.Common.{◌≡◌, ℕ, ◌+◌, List, [], ◌∷◌, ◌++◌, refl, ap, sym, ◌∙◌, append_assoc, length}
use Rattle.std.proofs.lemmas.List.{length-map, length-append}
use Rattle.std.specs.Prelude.{map, Option, Some, None, IsSome}
use Rattle.text_lines.specs.Words.{Text}
use Rattle.bench_report.specs.Faults.{IsFirstReportFault, IsReportFaultAt, HasPlace, HasNoPlace}
use Rattle.bench_report.specs.Lines.{said}
use Rattle.text_lines.specs.Lines.{text_lines}
use Rattle.bench_report.specs.Drafts.{Draft, IsNotMemory, IsRefusedLine, no_lines, with_line, with_line_said, with_lines, option_bind, finished}
use Rattle.bench_report.specs.declared.fault.ReportFault.{ReportFault}
use Rattle.bench_report.specs.declared.fault.ReportFault.TheVariants as fault
use Rattle.bench_report.specs.declared.lines.ReportLine.{ReportLine}
use Rattle.bench_report.proofs.Drafted.{are_said}
use Rattle.bench_report.proofs.Taken.{with_all, texts_as_lines, all-append}
use Rattle.bench_report.proofs.FirstFaults.{lines_begin, begins_not, no_report}

-- how far a text was read: its first lines made this draft of none, and these are left
pub record IsReadTo (text rest : Text) (draft : Draft) (line : ℕ) : Type 0 where
  pub texts : List Text
  pub all : text_lines text ≡ texts ++ text_lines rest
  pub taken : with_lines texts no_lines ≡ Some draft
  pub counted : length texts + 1 ≡ line

texts-append : (xs ys : List Text) (d e : Draft) → with_lines xs d ≡ Some e → with_lines (xs ++ ys) d ≡ with_lines ys e
texts-append [] ys d e is = ap (λ (m : Option Draft). option_bind m (with_lines ys)) is
texts-append (x ∷ xs) ys d e is = go (with_line_said d (said x)) is (λ f. texts-append xs ys f e)
  where
    go : (m : Option Draft) → option_bind m (with_lines xs) ≡ Some e → ((f : Draft) → with_lines xs f ≡ Some e → with_lines (xs ++ ys) f ≡ with_lines ys e)
        → option_bind m (with_lines (xs ++ ys)) ≡ with_lines ys e
    go None is rest = cc
    go (Some f) is rest = rest f is

-- what all lines make of none is what those that are left make of the draft
pub left : (text rest : Text) (d : Draft) (line : ℕ) → IsReadTo text rest d line → with_lines (text_lines text) no_lines ≡ with_lines (text_lines rest) d
left text rest d line is = rw is.all (texts-append is.texts (text_lines rest) no_lines d is.taken)

-- no line is left
pub none_left : (text rest : Text) (d : Draft) (line : ℕ) → IsReadTo text rest d line → text_lines rest ≡ [] → with_lines (text_lines text) no_lines ≡ Some d
none_left text rest d line is none = left text rest d line is ∙ (rw none refl)

refused_none : (d : Draft) (text : Text) (f : ReportFault) → IsRefusedLine d text f → IsNotMemory f → with_line_said d (said text) ≡ None
refused_none d text fault.Word is refusal = rw is.1 refl
refused_none d text fault.Number is refusal = rw is.1 refl
refused_none d text fault.Order is refusal = is.1
refused_none d text fault.Memory is refusal = absurd refusal

-- a line is refused, and not for want of memory
pub left_refused : (text rest first behind : Text) (d : Draft) (line : ℕ) (f : ReportFault) → IsReadTo text rest d line
    → text_lines rest ≡ first ∷ text_lines behind → IsRefusedLine d first f → IsNotMemory f → with_lines (text_lines text) no_lines ≡ None
left_refused text rest first behind d line f is lines refused refusal =
    left text rest d line is ∙ (rw (lines, refused_none d first f refused refusal) refl)

-- nothing was read
pub read_none : (text : Text) → IsReadTo text text no_lines 1
read_none text = record { texts = []; all = refl; taken = refl; counted = refl }

-- one more line was read
pub read_one : (text rest first behind : Text) (d e : Draft) (line : ℕ) → IsReadTo text rest d line → text_lines rest ≡ first ∷ text_lines behind
    → with_line_said d (said first) ≡ Some e → IsReadTo text behind e (line + 1)
read_one text rest first behind d e line is lines step =
    record {
      texts = is.texts ++ first ∷ [];
      all = is.all ∙ (rw (lines, append_assoc is.texts (first ∷ []) (text_lines behind)) refl);
      taken = texts-append is.texts (first ∷ []) no_lines d is.taken ∙ (rw step refl);
      counted = ap (λ (n : ℕ). n + 1) (length-append is.texts (first ∷ []) ∙ is.counted);
    }

-- the lines that were read
record Came (texts : List Text) (d : Draft) : Type 0 where
  lines : List ReportLine
  are : map said texts ≡ map Some lines
  taken : with_all lines no_lines ≡ Some d

came : (texts : List Text) (d : Draft) → with_lines texts no_lines ≡ Some d → Came texts d
came texts d taken =
    let said_all = are_said texts no_lines d taken in
    record { lines = said_all.lines; are = said_all.are; taken = sym (texts_as_lines texts said_all.lines no_lines said_all.are) ∙ taken }

place : (lines : List ReportLine) (d : Draft) (text : Text) → with_all lines no_lines ≡ Some d → IsSome (with_line_said d (said text)) → HasPlace lines text
place lines d text taken some = go (said text) refl some
  where
    go : (m : Option ReportLine) → said text ≡ m → IsSome (with_line_said d m) → HasPlace lines text
    go None says some = cc
    go (Some l) says some = on (with_line d l) refl some
      where
        on : (m : Option Draft) → with_line d l ≡ m → IsSome m → HasPlace lines text
        on None step some = cc
        on (Some e) step some =
            let all : with_all (lines ++ l ∷ []) no_lines ≡ Some e = all-append lines (l ∷ []) no_lines d taken ∙ (rw step refl) in
            record { line = l; says = says; begins = lines_begin (lines ++ l ∷ []) e all }

no_place : (lines : List ReportLine) (d : Draft) (text : Text) → with_all lines no_lines ≡ Some d → IsSome (said text) → with_line_said d (said text) ≡ None → HasNoPlace lines text
no_place lines d text taken some none = go (said text) refl some none
  where
    go : (m : Option ReportLine) → said text ≡ m → IsSome m → with_line_said d m ≡ None → HasNoPlace lines text
    go None says some none = cc
    go (Some l) says some none = record { line = l; says = says; begins_not = begins_not lines d l taken none }

at_fault : (lines : List ReportLine) (d : Draft) (text : Text) (rest : List Text) (f : ReportFault) → with_all lines no_lines ≡ Some d
    → IsRefusedLine d text f → IsReportFaultAt lines (text ∷ rest) f
at_fault lines d text rest fault.Word taken is = is.0
at_fault lines d text rest fault.Number taken is = is
at_fault lines d text rest fault.Order taken is = no_place lines d text taken is.0 is.1
at_fault lines d text rest fault.Memory taken is = place lines d text taken is

as_many : (lines : List ReportLine) (texts : List Text) → map said texts ≡ map Some lines → length lines ≡ length texts
as_many lines texts are = sym (length-map lines Some) ∙ sym (ap length are) ∙ length-map texts said

-- a line that is refused is the first fault
pub first_fault : (text rest first behind : Text) (d : Draft) (line : ℕ) (f : ReportFault) → IsReadTo text rest d line
    → text_lines rest ≡ first ∷ text_lines behind → IsRefusedLine d first f → IsFirstReportFault text f line
first_fault text rest first behind d line f is lines refused =
    let said_all = came is.texts d is.taken in
    record {
      before = said_all.lines;
      texts = is.texts;
      rest = first ∷ text_lines behind;
      all = rw lines at is.all;
      said_before = said_all.are;
      begins = lines_begin said_all.lines d said_all.taken;
      counted = ap (λ (n : ℕ). n + 1) (as_many said_all.lines is.texts said_all.are) ∙ is.counted;
      at_fault = at_fault said_all.lines d first (text_lines behind) f said_all.taken refused;
    }

-- where no line is left and the draft is not finished, the last line is missing
pub last_missing : (text rest : Text) (d : Draft) (line : ℕ) → IsReadTo text rest d line → text_lines rest ≡ [] → finished d ≡ None
    → IsFirstReportFault text fault.Order line
last_missing text rest d line is none unfinished =
    let said_all = came is.texts d is.taken in
    record {
      before = said_all.lines;
      texts = is.texts;
      rest = [];
      all = rw none at is.all;
      said_before = said_all.are;
      begins = lines_begin said_all.lines d said_all.taken;
      counted = ap (λ (n : ℕ). n + 1) (as_many said_all.lines is.texts said_all.are) ∙ is.counted;
      at_fault = no_report said_all.lines d said_all.taken unfinished;
    }
