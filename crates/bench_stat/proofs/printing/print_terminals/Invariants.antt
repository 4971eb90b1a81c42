use Rattle.std.proofs.Common.{[], ◌++◌, take}
use Rattle.std.specs.Prelude.{if◌then◌else◌}
use Rattle.std.specs.Io.KnownBytes.{Appends}
use Rattle.std.specs.List.{list_any}
use Rattle.bench_stat.specs.ChannelText.{called_line, columns_line, is_called, numbered}
use Rattle.bench_stat.proofs.printing.print_terminals.Given as goal

-- the texts of those so far were written
abbrev pub invariant-loop-address : goal.invariant-loop-address
invariant-loop-address g l = Appends (g.W.Write.contents l.fn.out) (g.W.Write.contents l.out) ((if list_any (λ t. is_called t) l.terminals then columns_line else []) ++ numbered called_line 0 (take l.address l.terminals))
