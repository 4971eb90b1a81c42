use Rattle.std.proofs.Common.{◌∷◌, [], ap, arith, length, length-append}
use Rattle.bench_judge.specs.Packets.{IsPacketTally}
use Rattle.bench_judge.proofs.Whole.{new-none, new-more}
use Rattle.bench_judge.proofs.packets.no_packets.Goals as goal

pub rules-init : goal.rules-init
rules-init c = record {
  many = ap length c.in_ok-tallies.ensures.items;
  new = rw c.in_ok-tallies.ensures.items (new-none (λ rule. IsPacketTally rule []));
}

pub rules-preserved : goal.rules-preserved
rules-preserved c = record {
  many = omega (arith, ap length c.in_ok-push.ensures.items, length-append c.rules.tallies.items (c.none.result ∷ []), c.rules.invariant.many);
  new = rw c.in_ok-push.ensures.items (new-more (λ rule. IsPacketTally rule []) c.rules.tallies.items c.none.result c.rules.invariant.new c.none.ensures);
}

pub returns : goal.returns
returns c = record { many = omega (arith, c.rules.invariant.many); each = λ k rule tally there got. c.rules.invariant.new.each k tally got rule }
