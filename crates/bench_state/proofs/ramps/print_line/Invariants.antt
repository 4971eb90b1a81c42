use Rattle.std.proofs.Common.{◌≡◌, false}
use Rattle.std.specs.Io.KnownBytes.{Appends}
use Rattle.bench_state.specs.RampText.{is_begun, ramps_below, shown}
use Rattle.bench_state.proofs.ramps.print_line.Given as goal

-- the ramps at the places so far
abbrev pub invariant-loop-place : goal.invariant-loop-place
invariant-loop-place g l = record {
  begun : l.begun ≡ is_begun (ramps_below l.terminal l.subaddress l.place);
  text : Appends (g.W.Write.contents l.fn.out) (g.W.Write.contents l.out) (shown false l.terminal.own l.subaddress (ramps_below l.terminal l.subaddress l.place));
}
