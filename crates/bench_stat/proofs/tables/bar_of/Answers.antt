use Rattle.std.proofs.Common.{◌/◌, min, take, ap, ◌∙◌, arith}
use Rattle.bench_stat.proofs.Marks.{first_marks, full_bar}
use Rattle.bench_stat.proofs.tables.bar_of.Goals as goal

pub returns : goal.returns
returns c = ap (λ n. take n full_bar) c.min-marks.ensures ∙ first_marks 50 (min (c.args.load / 200) 50) (omega arith)
