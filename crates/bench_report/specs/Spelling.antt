-- What a text spells: the report whose lines, from the first to the last, its lines say.
use Rattle.std.specs.Prelude.{◌≡◌, List, [], ◌∷◌, ◌++◌, map, Some}
use Rattle.std.specs.List.{flat_map}
use Rattle.text_lines.specs.Lines.{text_lines}
use Rattle.text_lines.specs.Words.{Text}
use Rattle.bench_report.specs.Reports.{ChannelPart, RunReport}
use Rattle.bench_report.specs.Lines.{said}
use Rattle.bench_report.specs.declared.lines.ReportLine.{ReportLine}
use Rattle.bench_report.specs.declared.lines.ReportLine.TheVariants as line

-- the lines of a channel: its number, how many messages it made, then each refused number, then each placed action
abbrev pub part_lines : ChannelPart → List ReportLine
part_lines p = line.Channel p.channel ∷ line.Made p.made ∷ (map line.Refused p.refused ++ map line.Placed p.placed)

-- the lines of a report: those of its channels, and last how many packets were written
abbrev pub report_lines : RunReport → List ReportLine
report_lines r = flat_map part_lines r.channels ++ line.Packets r.packets ∷ []

-- a text spells a report
unfoldable pub Spells : Text → RunReport → Type 0
Spells text r = map said (text_lines text) ≡ map Some (report_lines r)
