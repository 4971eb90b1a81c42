use Rattle.bench_judge.specs.Names.{AreLeft}
use Rattle.signal_judge.proofs.junit.junit_of_all.Given as goal

-- the lines that are left are those behind the last rule's
abbrev pub invariant-verdicts : goal.invariant-verdicts
invariant-verdicts g l = AreLeft l.names
