use Rattle.std.proofs.Common.{[], List, subst, sym}
use Rattle.bench_export.specs.Merging.{IsMerging}
use Rattle.bench_export.specs.declared.changes.Change.{Change}
use Rattle.bench_export.proofs.Waiting.{none_wait}
use Rattle.bench_export.proofs.merging.Merge.behind.Goals as goal

pub returns-clause-merging : goal.returns-clause-merging
returns-clause-merging c got = subst (λ (l : List Change). IsMerging c.args.told c.args.lag c.args.told c.idle.result.shown.items got got [] l) (sym c.new.ensures.items)
    (none_wait c.args.told c.args.lag c.idle.result.shown.items got c.idle.ensures)
