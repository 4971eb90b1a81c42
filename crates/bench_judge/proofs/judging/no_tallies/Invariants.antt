use Rattle.std.proofs.Common.{◌≡◌, [], length}
use Rattle.bench_judge.specs.Selection.{Origins}
use Rattle.bench_judge.proofs.Whole.{AreNew}
use Rattle.bench_judge.proofs.judging.no_tallies.Given as goal

-- each tally so far is of no messages
abbrev pub invariant-rules : goal.invariant-rules
invariant-rules g l = record {
  many : length l.tallies.items ≡ l._rule-index;
  new : (origins : Origins) → AreNew (λ rule. g.T.Tallied.is_tally rule origins []) l.tallies.items;
}
