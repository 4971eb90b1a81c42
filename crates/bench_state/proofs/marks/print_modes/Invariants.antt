use Rattle.std.proofs.Common.{◌≡◌, ◌||◌}
use Rattle.std.specs.Io.KnownBytes.{Appends}
use Rattle.bench_state.specs.Marks.{modes_below, listed, is_some_part}
use Rattle.bench_state.proofs.marks.print_modes.Given as goal

-- the marks of the mode codes so far
abbrev pub invariant-loop-code : goal.invariant-loop-code
invariant-loop-code g l = record {
  begun : l.begun_now ≡ (l.begun || is_some_part (modes_below l.terminal l.transmit l.code));
  text : Appends (g.W.Write.contents l.fn.out) (g.W.Write.contents l.out) (listed l.begun l.terminal.own (modes_below l.terminal l.transmit l.code));
}
