use Rattle.std.proofs.Common.{◌∷◌, [], ap, arith, length, length-append}
use Rattle.bench_judge.proofs.Whole.{new-none, new-more}
use Rattle.bench_judge.proofs.judging.no_tallies.Goals as goal

pub rules-init : goal.rules-init
rules-init g c = record {
  many = ap length c.in_ok-tallies.ensures.items;
  new = λ origins. rw c.in_ok-tallies.ensures.items (new-none (λ rule. g.T.Tallied.is_tally rule origins []));
}

pub rules-preserved : goal.rules-preserved
rules-preserved g c = record {
  many = omega (arith, ap length c.in_ok-push.ensures.items, length-append c.rules.tallies.items (c.no_tally.result ∷ []), c.rules.invariant.many);
  new = λ origins. rw c.in_ok-push.ensures.items (new-more (λ rule. g.T.Tallied.is_tally rule origins []) c.rules.tallies.items c.no_tally.result (c.rules.invariant.new origins) (λ rule. c.no_tally.ensures rule origins));
}

pub returns : goal.returns
returns g c = λ origins. record { many = omega (arith, c.rules.invariant.many); each = λ k rule tally there got. (c.rules.invariant.new origins).each k tally got rule }
