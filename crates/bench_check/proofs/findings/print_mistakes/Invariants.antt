use Rattle.std.proofs.Common.{◌++◌, take}
use Rattle.std.specs.Prelude.{codes}
use Rattle.std.specs.List.{flat_map}
use Rattle.std.specs.Io.KnownBytes.{Appends}
use Rattle.bench_check.specs.MistakeLines.{mistake_line}
use Rattle.bench_check.proofs.findings.print_mistakes.Given as goal

-- the lines of those so far are printed
abbrev pub invariant-loop-mistake : goal.invariant-loop-mistake
invariant-loop-mistake g l = Appends (g.W.Write.contents l.fn.out) (g.W.Write.contents l.out) (codes "probably a mistake:\n" ++ flat_map mistake_line (take l.mistake-index l.mistakes))
