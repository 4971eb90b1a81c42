use Rattle.bench_export.proofs.Latest.{none_shown}
use Rattle.bench_export.proofs.lines.Lines.idle.Goals as goal

pub returns : goal.returns
returns c = none_shown _ c.new.ensures.items
