use Rattle.std.specs.Io.KnownBytes.{Appends}
use Rattle.bench_state.specs.RampText.{ramp_lines_of}
use Rattle.bench_state.proofs.ramps.print_ramps.Given as goal

-- the lines of the subaddresses so far
abbrev pub invariant-loop-before : goal.invariant-loop-before
invariant-loop-before g l = Appends (g.W.Write.contents l.fn.out) (g.W.Write.contents l.out) (ramp_lines_of l.terminal l.before)
