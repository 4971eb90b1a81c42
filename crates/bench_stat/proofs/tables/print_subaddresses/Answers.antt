use Rattle.std.specs.Prelude.{[], if◌then◌else◌}
use Rattle.std.specs.List.{list_any}
use Rattle.bench_stat.specs.PageText.{entries_head, has_messages, met_line}
use Rattle.bench_stat.proofs.Appending.{goes_on_numbered}
use Rattle.bench_stat.proofs.tables.print_subaddresses.Goals as goal

pub loop-entry-preserved : goal.loop-entry-preserved
loop-entry-preserved g c =
    goes_on_numbered (met_line c.args.span) c.args.flows.now c.loop-entry.entry _ _ _ _ (if list_any (λ f. has_messages f) c.args.flows.now then entries_head else []) c.loop-entry-test.true c.loop-entry.invariant c.in_ok-print_met.ensures
