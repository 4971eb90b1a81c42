use Rattle.std.specs.Io.KnownBytes.{Appends}
use Rattle.bench_state.specs.StateText.{lines_below}
use Rattle.bench_state.proofs.states.print_terminals.Given as goal

-- the lines of the terminals so far
abbrev pub invariant-loop-address : goal.invariant-loop-address
invariant-loop-address g l = Appends (g.W.Write.contents l.fn.out) (g.W.Write.contents l.out) (lines_below l.detail l.address l.bus)
