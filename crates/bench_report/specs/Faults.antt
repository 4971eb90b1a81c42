-- The first fault of a report's text (own choice): its lines in their order, and in a line its words, then its numbers,
-- then its place.
use Rattle.std.specs.Prelude.{◌≡◌, ℕ, ◌+◌, Bool, true, false, if◌then◌else◌, List, [], ◌∷◌, ◌++◌, map, length, Some}
use Rattle.std.specs.Prelude.{None, Ok, Err, Result, All, codes}
use Rattle.std.specs.Str.{bytes_eq}
use Rattle.text_lines.specs.Words.{Text, words}
use Rattle.mil_host.specs.Reading.{in_words}
use Rattle.controller_text.specs.Reading.{control_in}
use Rattle.mil_host.specs.declared.reading.BadAction.{BadAction}
use Rattle.bench_report.specs.Reports.{ChannelPart, RunReport, Rises, NeverFalls}
use Rattle.bench_report.specs.Lines.{said, is_controller}
use Rattle.bench_report.specs.Spelling.{report_lines}
use Rattle.text_lines.specs.Lines.{text_lines}
use Rattle.bench_report.specs.declared.fault.ReportFault.{ReportFault}
use Rattle.bench_report.specs.declared.fault.ReportFault.TheVariants as fault
use Rattle.bench_report.specs.declared.lines.ReportLine.{ReportLine}

abbrev pub is_one_word : List Text → Bool
is_one_word [] = false
is_one_word (word ∷ []) = true
is_one_word (word ∷ more ∷ rest) = false

abbrev pub is_action : {X : Type 0} → Result X BadAction → Bool
is_action (Ok action) = true
is_action (Err bad) = false

-- the words behind `placed`: two for number and address, and those of an action that is not refused
abbrev pub are_placed_words : List Text → Bool
are_placed_words [] = false
are_placed_words (number ∷ []) = false
are_placed_words (number ∷ host ∷ action) =
    if is_controller host then is_action (control_in action) else is_action (in_words action)

-- a line's words are those of one of the five kinds of line, whatever numbers they spell
abbrev pub are_line_words : List Text → Bool
are_line_words [] = false
are_line_words (word ∷ rest) =
    if bytes_eq word (codes "channel") then is_one_word rest
    else if bytes_eq word (codes "made") then is_one_word rest
    else if bytes_eq word (codes "refused") then is_one_word rest
    else if bytes_eq word (codes "placed") then are_placed_words rest
    else if bytes_eq word (codes "packets") then is_one_word rest
    else false

-- the refused numbers of a channel rise and are none above those made, and the numbers of its placed actions never fall
pub record IsInOrder (p : ChannelPart) : Type 0 where
  pub refused : Rises 0 p.made p.refused
  pub placed : NeverFalls 0 p.placed

-- lines with which the lines of a report begin, whose channels are in order
pub record Begin (lines : List ReportLine) : Type 0 where
  pub report : RunReport
  pub in_order : All IsInOrder report.channels
  pub rest : List ReportLine
  pub are : report_lines report ≡ lines ++ rest

-- the lines of a report without its last
abbrev pub AreNoReport : List ReportLine → Type 0
AreNoReport lines = (r : RunReport) → All IsInOrder r.channels → report_lines r ≡ lines → ⊥

-- a line that has its place behind these
pub record HasPlace (before : List ReportLine) (text : Text) : Type 0 where
  pub line : ReportLine
  pub says : said text ≡ Some line
  pub begins : Begin (before ++ line ∷ [])

-- one that has none
pub record HasNoPlace (before : List ReportLine) (text : Text) : Type 0 where
  pub line : ReportLine
  pub says : said text ≡ Some line
  pub begins_not : Begin (before ++ line ∷ []) → ⊥

-- what is at fault where these lines were read, and these are still to come: X1 the words of the next, X2 a number of
-- it, X3 its place, or that no line is left where the last is missing; memory may be refused only at a line without a
-- fault
abbrev pub IsReportFaultAt : List ReportLine → List Text → ReportFault → Type 0
IsReportFaultAt before [] fault.Word = ⊥
IsReportFaultAt before [] fault.Number = ⊥
IsReportFaultAt before [] fault.Order = AreNoReport before
IsReportFaultAt before [] fault.Memory = ⊥
IsReportFaultAt before (text ∷ rest) fault.Word = are_line_words (words text) ≡ false
IsReportFaultAt before (text ∷ rest) fault.Number = (are_line_words (words text) ≡ true) × (said text ≡ None)
IsReportFaultAt before (text ∷ rest) fault.Order = HasNoPlace before text
IsReportFaultAt before (text ∷ rest) fault.Memory = HasPlace before text

-- the first fault of a text, and the number of its line, counted from 1: all lines before it begin a report
pub record IsFirstReportFault (text : Text) (fault : ReportFault) (line : ℕ) : Type 0 where
  pub before : List ReportLine
  pub texts : List Text
  pub rest : List Text
  pub all : text_lines text ≡ texts ++ rest
  pub said_before : map said texts ≡ map Some before
  pub begins : Begin before
  pub counted : length before + 1 ≡ line
  pub at_fault : IsReportFaultAt before rest fault
