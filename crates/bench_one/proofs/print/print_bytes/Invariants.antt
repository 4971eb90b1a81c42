use Rattle.std.proofs.Common.{ℕ, drop, List, Option}
use Rattle.std.specs.Io.KnownBytes.{Appends}
use Rattle.bench_one.specs.Lines.{lines_of, shown_from}
use Rattle.bench_one.proofs.print.print_bytes.Given as goal

-- what is still to write makes the writer's bytes whole
abbrev pub invariant-loop-place : goal.invariant-loop-place
invariant-loop-place g l =
    (end : Option (List ℕ)) → Appends (g.W.Write.contents l.out) end (shown_from l.place (drop l.place l.bytes))
    → Appends (g.W.Write.contents l.fn.out) end (lines_of l.bytes)
