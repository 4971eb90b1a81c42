use Rattle.std.specs.Io.KnownBytes.{Appends}
use Rattle.bench_state.specs.SourceRows.{dots}
use Rattle.bench_state.proofs.controller.print_dots.Given as goal

-- the dots so far
abbrev pub invariant-dots : goal.invariant-dots
invariant-dots g l = Appends (g.W.Write.contents l.fn.out) (g.W.Write.contents l.out) (dots l._printed)
