use Rattle.std.proofs.Common.{◌≡◌, ◌++◌, ℕ, List, Some, length}
use Rattle.bench_judge.specs.Junit.{cases}
use Rattle.bench_judge.specs.Names.{AreLeft}
use Rattle.bench_judge.specs.Streaming.{passed_of}
use Rattle.bench_judge.proofs.junit.put_cases.Given as goal

-- the test cases of the rules so far are written
abbrev pub invariant-rules : goal.invariant-rules
invariant-rules g l = record {
  text : l.names.text.now ≡ l.judged.text.now;
  left : AreLeft l.names;
  written : (file : List ℕ) → g.S.Reopen.bytes l.recording ≡ Some file
      → l.text.items ++ cases l.judged.file.now l.judged.text.now l.judged.skips.now l.rules l.verdicts (passed_of l.judged.origins.now file)
      ≡ l.fn.text.items ++ cases l.judged.file.now l.judged.text.now l.judged.skips.now l.judged.rules.now l.judged.verdicts.now (passed_of l.judged.origins.now file);
}

abbrev pub decreases-rules : goal.decreases-rules
decreases-rules g l = length l.rules
