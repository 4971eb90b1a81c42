use Rattle.std.proofs.Common.{[]}
use Rattle.bench_stat.specs.ChannelText.{called_row}
use Rattle.bench_stat.specs.Times.{between_if}
use Rattle.bench_stat.proofs.Appending.{goes_on_numbered}
use Rattle.bench_stat.proofs.printing.print_called_rows.Goals as goal

pub loop-address-preserved : goal.loop-address-preserved
loop-address-preserved g c =
    goes_on_numbered (called_row c.args.channel (between_if c.args.times)) c.args.terminals.now c.loop-address.address _ _ _ _ [] c.loop-address-test.true c.loop-address.invariant c.in_ok-print_called_row.ensures
