use Rattle.std.specs.Prelude.{[], if◌then◌else◌}
use Rattle.std.specs.List.{list_any}
use Rattle.bench_stat.specs.ChannelText.{called_line, columns_line, is_called}
use Rattle.bench_stat.proofs.Appending.{goes_on_numbered}
use Rattle.bench_stat.proofs.printing.print_terminals.Goals as goal

pub loop-address-preserved : goal.loop-address-preserved
loop-address-preserved g c =
    goes_on_numbered called_line c.args.terminals.now c.loop-address.address _ _ _ _ (if list_any (λ t. is_called t) c.args.terminals.now then columns_line else []) c.loop-address-test.true c.loop-address.invariant c.in_ok-print_called.ensures
