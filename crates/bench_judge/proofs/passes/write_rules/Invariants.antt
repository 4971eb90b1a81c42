use Rattle.std.proofs.Common.{◌≡◌, ℕ, List, Some, Ok, take}
use Rattle.std.specs.Io.KnownBytes.{Appends}
use Rattle.ch11_reader.specs.Indexed.{found_in}
use Rattle.ch11_reader.specs.Recording.{packets_in}
use Rattle.bench_judge.specs.Lines.{rules_lines}
use Rattle.bench_judge.specs.Streaming.{passed_of}
use Rattle.bench_judge.specs.Verdicts.{AreVerdicts}
use Rattle.bench_judge.proofs.passes.write_rules.Given as goal

-- the lines of the rules so far are written
abbrev pub invariant-rules : goal.invariant-rules
invariant-rules g l =
    (file : List ℕ) → g.S.Reopen.bytes l.recording ≡ Some file → packets_in file ≡ Ok (found_in file) → AreVerdicts l.rules (passed_of l.origins file) l.verdicts
    → Appends (g.W.Write.contents l.fn.out) (g.W.Write.contents l.out) (rules_lines l.skips (take l.place l.rules) (passed_of l.origins file))
