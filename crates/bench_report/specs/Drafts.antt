-- A report as far as its lines have come, and one more line (inside the crate).
use Rattle.std.specs.Prelude.{◌≡◌, ℕ, ◌≤◌, Bool, true, false, ◌&&◌, nat_le, nat_lt, if◌then◌else◌, List, [], ◌∷◌, ◌++◌}
use Rattle.std.specs.Prelude.{map, Option, Some, None, IsSome, Result, Ok, Err}
use Rattle.bc_machine.specs.declared.placed.Placed.{Placed}
use Rattle.text_lines.specs.Words.{Text, words}
use Rattle.bench_report.specs.Reports.{ChannelPart, RunReport}
use Rattle.bench_report.specs.Lines.{said}
use Rattle.text_lines.specs.Lines.{text_lines}
use Rattle.bench_report.specs.Faults.{are_line_words}
use Rattle.bench_report.specs.declared.fault.ReportFault.{ReportFault}
use Rattle.bench_report.specs.declared.fault.ReportFault.TheVariants as fault
use Rattle.bench_report.specs.declared.lines.ReportLine.{ReportLine}
use Rattle.bench_report.specs.declared.lines.ReportLine.TheVariants as line
use Rattle.bench_report.specs.declared.stages.Stage.{Stage}
use Rattle.bench_report.specs.declared.stages.Stage.TheVariants.{Begin, Named, Body, End}

-- the channels that are done, and how far the lines behind them have come
pub record Draft : Type 0 where
  pub done : List ChannelPart
  pub stage : Stage

abbrev pub no_lines : Draft
no_lines = record { done = []; stage = Begin }

-- the ranges of a stage
abbrev pub IsStage : Stage → Type 0
IsStage Begin = Unit {0}
IsStage (Named channel) = (1 ≤ channel) × (channel ≤ 65535)
IsStage (Body part) = Unit {0}
IsStage (End packets) = packets ≤ 9999999999

-- the last number of a list, and the number above where it is empty
abbrev pub last_number : ℕ → List ℕ → ℕ
last_number above [] = above
last_number above (n ∷ ns) = last_number n ns

abbrev pub is_none_placed : List Placed → Bool
is_none_placed [] = true
is_none_placed (p ∷ ps) = false

abbrev pub numbers : List Placed → List ℕ
numbers placed = map (λ (p : Placed). p.number) placed

abbrev pub with_refused : ChannelPart → ℕ → Option ChannelPart
with_refused p n =
    if is_none_placed p.placed && (nat_lt (last_number 0 p.refused) n && nat_le n p.made)
    then Some (record { channel = p.channel; made = p.made; refused = p.refused ++ n ∷ []; placed = p.placed })
    else None

abbrev pub with_placed : ChannelPart → Placed → Option ChannelPart
with_placed p x =
    if nat_le (last_number 0 (numbers p.placed)) x.number
    then Some (record { channel = p.channel; made = p.made; refused = p.refused; placed = p.placed ++ x ∷ [] })
    else None

abbrev pub in_body : List ChannelPart → Option ChannelPart → Option Draft
in_body done None = None
in_body done (Some p) = Some (record { done = done; stage = Body p })

-- the channels that are done where another line than those of a channel may follow
abbrev pub closed : List ChannelPart → Stage → Option (List ChannelPart)
closed done Begin = Some done
closed done (Named channel) = None
closed done (Body p) = Some (done ++ p ∷ [])
closed done (End packets) = None

abbrev pub at_stage : Option (List ChannelPart) → Stage → Option Draft
at_stage None stage = None
at_stage (Some done) stage = Some (record { done = done; stage = stage })

abbrev pub made_line : List ChannelPart → Stage → ℕ → Option Draft
made_line done Begin n = None
made_line done (Named channel) n = Some
    (record { done = done; stage = Body (record { channel = channel; made = n; refused = []; placed = [] }) })
made_line done (Body p) n = None
made_line done (End packets) n = None

abbrev pub refused_line : List ChannelPart → Stage → ℕ → Option Draft
refused_line done Begin n = None
refused_line done (Named channel) n = None
refused_line done (Body p) n = in_body done (with_refused p n)
refused_line done (End packets) n = None

abbrev pub placed_line : List ChannelPart → Stage → Placed → Option Draft
placed_line done Begin x = None
placed_line done (Named channel) x = None
placed_line done (Body p) x = in_body done (with_placed p x)
placed_line done (End packets) x = None

-- a draft with one more line, where the line may stand there
abbrev pub with_line : Draft → ReportLine → Option Draft
with_line d (line.Channel n) = at_stage (closed d.done d.stage) (Named n)
with_line d (line.Made n) = made_line d.done d.stage n
with_line d (line.Refused n) = refused_line d.done d.stage n
with_line d (line.Placed x) = placed_line d.done d.stage x
with_line d (line.Packets n) = at_stage (closed d.done d.stage) (End n)

abbrev pub with_line_said : Draft → Option ReportLine → Option Draft
with_line_said d None = None
with_line_said d (Some l) = with_line d l

abbrev pub option_bind : {X Y : Type 0} → Option X → (X → Option Y) → Option Y
option_bind None next = None
option_bind (Some x) next = next x

-- the same with more lines
abbrev pub with_lines : List Text → Draft → Option Draft
with_lines [] d = Some d
with_lines (text ∷ rest) d = option_bind (with_line_said d (said text)) (with_lines rest)

-- the report of channels that are done, once the last line is there
abbrev pub report_at : List ChannelPart → Stage → Option RunReport
report_at done Begin = None
report_at done (Named channel) = None
report_at done (Body p) = None
report_at done (End packets) = Some (record { channels = done; packets = packets })

abbrev pub finished : Draft → Option RunReport
finished d = report_at d.done d.stage

-- the report that lines make
abbrev pub made_of : Text → Option RunReport
made_of text = option_bind (with_lines (text_lines text) no_lines) finished

-- a fault that is not want of memory
abbrev pub IsNotMemory : ReportFault → Type 0
IsNotMemory fault.Word = Unit {0}
IsNotMemory fault.Number = Unit {0}
IsNotMemory fault.Order = Unit {0}
IsNotMemory fault.Memory = ⊥

-- what a call answers that takes something in: the new value; or that it has no place, or that it has one and memory
-- was refused
abbrev pub TakesIntoDraft : {X U : Type 0} → Result U ReportFault → Option X → X → Type 0
TakesIntoDraft (Ok u) after new = after ≡ Some new
TakesIntoDraft (Err fault.Word) after new = ⊥
TakesIntoDraft (Err fault.Number) after new = ⊥
TakesIntoDraft (Err fault.Order) after new = after ≡ None
TakesIntoDraft (Err fault.Memory) after new = IsSome after

-- what is wrong with the words of a line, or with a number of it
abbrev pub IsBad : Bool → ReportFault → Type 0
IsBad well fault.Word = well ≡ false
IsBad well fault.Number = well ≡ true
IsBad well fault.Order = ⊥
IsBad well fault.Memory = ⊥

-- what is wrong with a line behind a draft
abbrev pub IsRefusedLine : Draft → Text → ReportFault → Type 0
IsRefusedLine d text fault.Word = (are_line_words (words text) ≡ false) × (said text ≡ None)
IsRefusedLine d text fault.Number = (are_line_words (words text) ≡ true) × (said text ≡ None)
IsRefusedLine d text fault.Order = IsSome (said text) × (with_line_said d (said text) ≡ None)
IsRefusedLine d text fault.Memory = IsSome (with_line_said d (said text))

-- what a call answers that takes in the line of a text
abbrev pub TakesText : {U : Type 0} → Result U ReportFault → Text → Draft → Draft → Type 0
TakesText (Ok u) text d new = with_line_said d (said text) ≡ Some new
TakesText (Err fault) text d new = IsRefusedLine d text fault
