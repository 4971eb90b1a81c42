use Rattle.std.proofs.Common.{◌≡◌, length}
use Rattle.bench_judge.specs.Names.{AreLeft}
use Rattle.bench_judge.proofs.Showing.{IsShowing}
use Rattle.bench_judge.proofs.colored.write_rules.Given as goal

-- the rules so far are shown
abbrev pub invariant-rules : goal.invariant-rules
invariant-rules g l = record {
  text : l.names.text.now ≡ l.colored.judged.text.now;
  left : AreLeft l.names;
  many : length l.colored.judged.rules.now ≡ length l.colored.judged.verdicts.now → length l.rules ≡ length l.verdicts;
  shown : IsShowing l.colored.judged.text.now l.colored.judged.rules.now l.colored.judged.verdicts.now l.rules l.verdicts (g.W.Write.contents l.fn.out) (g.W.Write.contents l.out);
}

abbrev pub decreases-rules : goal.decreases-rules
decreases-rules g l = length l.verdicts
