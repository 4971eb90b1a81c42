use Rattle.std.specs.Prelude.{[]}
use Rattle.bench_stat.specs.RowText.{met_row}
use Rattle.bench_stat.specs.Times.{between_if}
use Rattle.bench_stat.proofs.Appending.{goes_on_numbered}
use Rattle.bench_stat.proofs.rows.write_flows.Goals as goal

pub loop-entry-preserved : goal.loop-entry-preserved
loop-entry-preserved g c =
    goes_on_numbered (met_row c.args.figures.now.channel c.known_span-span.result (between_if c.args.times)) c.args.flows.now c.loop-entry.entry _ _ _ _ [] c.loop-entry-test.true c.loop-entry.invariant c.in_ok-write_met.ensures
