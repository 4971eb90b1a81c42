use Rattle.std.proofs.Common.{arith, ◌∙◌}
use Rattle.bench_decode.specs.RecordingText.{line_of, names_behind}
use Rattle.bench_decode.proofs.PrintedLines.{on_any, on_ok_one}
use Rattle.bench_decode.proofs.Wording.{put-then}
use Rattle.bench_decode.proofs.printing.put_message.Goals as goal

pub returns-clause-put : goal.returns-clause-put
returns-clause-put g c = λ shown.
    let names = c.in_ok-put_heading.ensures shown in
    on_ok_one c.put_line.result (c.put_line.ensures (names.shown ∙ shown))
    (λ line. put-then _ _ _ c.args.printing.now.line c.put_heading.new.line c.put_line.new.line (names_behind c.args.output.now c.args.printing.now.count) (line_of c.args.output.now c.args.place.now c.args.view.now) names line)

pub returns-clause-count : goal.returns-clause-count
returns-clause-count g c = on_any c.put_line.result (λ below. omega (arith, below, c.saturating_add-printing.ensures))
