use Rattle.bench_live.specs.Posting.{AreHandsOf}
use Rattle.bench_live.proofs.telling.post_all.Given as goal

-- the hands are those of the desk
abbrev pub invariant-loop : goal.invariant-loop
invariant-loop g l = record {
  again : (goal.iterator-loop g).can_next l.iterator' × (goal.iterator-loop g).is_finite l.iterator';
  hands : AreHandsOf l.desk l.hands.items;
}
