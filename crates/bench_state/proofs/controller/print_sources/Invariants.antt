use Rattle.std.proofs.Common.{◌≡◌, ◌++◌, drop}
use Rattle.std.specs.Prelude.{None}
use Rattle.std.specs.Io.KnownBytes.{Appends}
use Rattle.text_lines.specs.Words.{Text}
use Rattle.bench_state.specs.SourceRows.{rows_text}
use Rattle.bench_state.proofs.controller.print_sources.Given as goal

-- what was printed so far, and the rows that are left
abbrev pub invariant-loop-row : goal.invariant-loop-row
invariant-loop-row g l = (done : Text) × Appends (g.W.Write.contents l.fn.out) (g.W.Write.contents l.out) done × (done ++ rows_text l.before (drop l.row-index l.rows) ≡ rows_text None l.rows)
