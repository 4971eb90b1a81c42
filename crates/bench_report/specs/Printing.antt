-- The text of a report: its lines, single spaces between their words, each ended by LF.
use Rattle.std.specs.Prelude.{ℕ, List, [], ◌∷◌, ◌++◌, codes, decimal}
use Rattle.std.specs.List.{flat_map}
use Rattle.bc_machine.specs.declared.placed.Placed.{Placed}
use Rattle.bc_machine.specs.declared.placed.HostAction.{HostAction}
use Rattle.bc_machine.specs.declared.placed.HostAction.TheVariants.{Terminal, Controller}
use Rattle.controller_text.specs.Printing.{control_text}
use Rattle.text_lines.specs.Words.{Text}
use Rattle.mil_host.specs.Printing.{spaced, action_text}
use Rattle.bench_report.specs.Reports.{ChannelPart, RunReport}
use Rattle.bench_report.specs.Spelling.{part_lines, report_lines}
use Rattle.bench_report.specs.declared.lines.ReportLine.{ReportLine}
use Rattle.bench_report.specs.declared.lines.ReportLine.TheVariants as line
use Rattle.bench_report.specs.declared.fault.ReportFault.{ReportFault}
use Rattle.bench_report.specs.declared.fault.ReportFault.TheVariants as fault
use Rattle.bench_report.specs.declared.fault.ReportError.{ReportError}

-- what a host asked for: the address of the terminal, or `bc`, and the text of the action
abbrev pub host_action_words : HostAction → List Text
host_action_words (Terminal address action) = decimal address ∷ action_text action ∷ []
host_action_words (Controller asked) = codes "bc" ∷ control_text asked ∷ []

abbrev pub host_action_text : HostAction → Text
host_action_text action = spaced (host_action_words action)

-- the words of a line; those of an action stand in its text
abbrev pub line_words : ReportLine → List Text
line_words (line.Channel n) = codes "channel" ∷ decimal n ∷ []
line_words (line.Made n) = codes "made" ∷ decimal n ∷ []
line_words (line.Refused n) = codes "refused" ∷ decimal n ∷ []
line_words (line.Placed p) = codes "placed" ∷ decimal p.number ∷ host_action_words p.action
line_words (line.Packets n) = codes "packets" ∷ decimal n ∷ []

-- a line and its end
abbrev pub report_line_text : ReportLine → Text
report_line_text l = spaced (line_words l) ++ codes "\n"

abbrev pub refused_text : ℕ → Text
refused_text n = report_line_text (line.Refused n)

abbrev pub placed_text : Placed → Text
placed_text p = report_line_text (line.Placed p)

abbrev pub part_text : ChannelPart → Text
part_text p = flat_map report_line_text (part_lines p)

unfoldable pub report_text : RunReport → Text
report_text r = flat_map report_line_text (report_lines r)

abbrev pub fault_code : ReportFault → Text
fault_code fault.Word = codes "X1"
fault_code fault.Number = codes "X2"
fault_code fault.Order = codes "X3"
fault_code fault.Memory = codes "X4"

-- a fault with its line
abbrev pub error_text : ReportError → Text
error_text e = fault_code e.fault ++ (codes " line " ++ decimal e.line)
