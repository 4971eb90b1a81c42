use Rattle.std.proofs.Common.{refl, ap, ◌∙◌, arith, length, [], List, ℕ, length-set}
use Rattle.mil_terminal.proofs.Putting.{emptied-more, kept-more}
use Rattle.mil_terminal.proofs.blocks.Block.clear_received.Goals as goal

pub loop-slot-init : goal.loop-slot-init
loop-slot-init c = record { cleared = λ k lt. absurd (omega arith); kept = λ k le. refl; long = refl; few = omega arith }

pub loop-slot-preserved : goal.loop-slot-preserved
loop-slot-preserved c = record {
  cleared = emptied-more c.loop-slot.self c.store.new.self c.loop-slot.slot c.store.ensures c.loop-slot.invariant.cleared;
  kept = λ k le. kept-more c.loop-slot.self c.store.new.self c.loop-slot.slot c.store.ensures k (omega arith) ∙ c.loop-slot.invariant.kept k (omega arith);
  long = ap (λ (xs : List (List ℕ)). length xs) c.store.ensures ∙ length-set c.loop-slot.self c.loop-slot.slot [] ∙ c.loop-slot.invariant.long;
  few = omega (arith, c.loop-slot-test.true);
}

pub returns-clause-cleared : goal.returns-clause-cleared
returns-clause-cleared c = λ slot lt. c.loop-slot.invariant.cleared slot (omega (arith, lt, c.loop-slot-test.false))

pub returns-clause-kept : goal.returns-clause-kept
returns-clause-kept c = λ slot le. c.loop-slot.invariant.kept slot (omega (arith, le, c.loop-slot.invariant.few))
