use Rattle.std.proofs.Common.{arith}
use Rattle.text_lines.specs.Lines.{text_lines}
use Rattle.bench_judge.proofs.Behind.{all_behind, one_behind}
use Rattle.bench_judge.proofs.names.behind_lines.Goals as goal

pub returns-in-None : goal.returns-in-None
returns-in-None c =
    all_behind c.lines.made c.args.count (text_lines c.lines.rest.now) (text_lines c.args.text.now) c.lines.invariant c.in-None.ensures.lines (omega (arith, c.lines-test.true))

pub lines-preserved : goal.lines-preserved
lines-preserved c =
    one_behind c.lines.made c.in-Some.field-0-0.now (text_lines c.lines.rest.now) (text_lines c.in-Some.behind.now) (text_lines c.args.text.now) c.lines.invariant c.in-Some.ensures.lines
