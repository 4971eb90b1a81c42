-- What the printing of a report writes.
use Rattle.std.proofs.Common.{◌≡◌, List, [], ◌∷◌, ◌++◌, refl, append-nil, append_assoc}
use Rattle.std.specs.Prelude.{codes, decimal, map}
use Rattle.std.specs.List.{flat_map}
use Rattle.std.proofs.lemmas.Grind.{flat_map-append}
use Rattle.std.proofs.lemmas.List.Folds.{flat_map-map}
use Rattle.bc_machine.specs.declared.placed.Placed.{Placed}
use Rattle.bc_machine.specs.declared.placed.HostAction.{HostAction}
use Rattle.bc_machine.specs.declared.placed.HostAction.TheVariants.{Terminal, Controller}
use Rattle.text_lines.specs.Words.{Text}
use Rattle.mil_host.specs.Printing.{spaced, spaced_word}
use Rattle.bench_report.specs.Reports.{ChannelPart, RunReport}
use Rattle.bench_report.specs.Spelling.{part_lines}
use Rattle.bench_report.specs.Printing.{report_line_text, refused_text, placed_text, part_text, report_text, host_action_words, host_action_text}
use Rattle.bench_report.specs.declared.lines.ReportLine.TheVariants as line

-- a host's action stands behind a space
host_behind : (action : HostAction) → flat_map spaced_word (host_action_words action) ≡ 32 ∷ host_action_text action
host_behind (Terminal address action) = refl
host_behind (Controller asked) = refl

placed_behind : (number text : Text) (ws : List Text) → flat_map spaced_word ws ≡ 32 ∷ text
    → spaced (codes "placed" ∷ number ∷ ws) ++ codes "\n" ≡ codes "placed " ++ (number ++ (codes " " ++ (text ++ codes "\n")))
placed_behind number text ws is = rw (is, append_assoc number (32 ∷ text) (codes "\n")) refl

-- the line of a placed action
pub placed_written : (p : Placed) → placed_text p ≡ codes "placed " ++ (decimal p.number ++ (codes " " ++ (host_action_text p.action ++ codes "\n")))
placed_written p = placed_behind (decimal p.number) (host_action_text p.action) (host_action_words p.action) (host_behind p.action)

lines_of_lists : (p : ChannelPart) → flat_map report_line_text (map line.Refused p.refused ++ map line.Placed p.placed) ≡ flat_map refused_text p.refused ++ flat_map placed_text p.placed
lines_of_lists p =
    rw (flat_map-append report_line_text (map line.Refused p.refused) (map line.Placed p.placed), flat_map-map report_line_text line.Refused p.refused, flat_map-map report_line_text line.Placed p.placed) refl

-- the lines of a channel
pub part_written : (p : ChannelPart) → part_text p
    ≡ codes "channel " ++ (decimal p.channel ++ (codes "\nmade " ++ (decimal p.made ++ (codes "\n" ++ (flat_map refused_text p.refused ++ flat_map placed_text p.placed)))))
part_written p = go (flat_map refused_text p.refused ++ flat_map placed_text p.placed) (lines_of_lists p)
  where
    go : (lists : Text) → flat_map report_line_text (map line.Refused p.refused ++ map line.Placed p.placed) ≡ lists
        → part_text p ≡ codes "channel " ++ (decimal p.channel ++ (codes "\nmade " ++ (decimal p.made ++ (codes "\n" ++ lists))))
    go lists is =
        rw (
          is,
          append-nil (decimal p.channel),
          append-nil (decimal p.made),
          append_assoc (decimal p.channel) (codes "\n") (codes "made " ++ ((decimal p.made ++ codes "\n") ++ lists)),
          append_assoc (decimal p.made) (codes "\n") lists,
        ) refl

flat_map-flat_map : (ps : List ChannelPart) → flat_map report_line_text (flat_map part_lines ps) ≡ flat_map part_text ps
flat_map-flat_map [] = refl
flat_map-flat_map (p ∷ ps) = rw (flat_map-append report_line_text (part_lines p) (flat_map part_lines ps), flat_map-flat_map ps) refl

-- the lines of a report
pub report_written : (r : RunReport) → report_text r ≡ flat_map part_text r.channels ++ (codes "packets " ++ (decimal r.packets ++ codes "\n"))
unfolding report_text
report_written r =
    rw (flat_map-append report_line_text (flat_map part_lines r.channels) (line.Packets r.packets ∷ []), flat_map-flat_map r.channels, append-nil (decimal r.packets), append-nil (decimal r.packets ++ codes "\n")) refl
