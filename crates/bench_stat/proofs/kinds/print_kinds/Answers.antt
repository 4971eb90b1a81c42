use Rattle.bench_stat.specs.KindText.{head_of, kind_text}
use Rattle.bench_stat.proofs.Appending.{goes_on_numbered}
use Rattle.bench_stat.proofs.kinds.print_kinds.Goals as goal

pub loop-kind-preserved : goal.loop-kind-preserved
loop-kind-preserved g c = goes_on_numbered (kind_text c.args.rows) c.args.kinds.now c.loop-kind.kind _ _ _ _ (head_of c.args.rows) c.loop-kind-test.true c.loop-kind.invariant c.in_ok-print_kind.ensures
