use Rattle.bench_live.specs.Posting.{AreHandsOf}
use Rattle.bench_live.proofs.Gone.{HaveCounted}
use Rattle.bench_live.proofs.posting.next_fault.Given as goal

-- the lines so far were posted and counted
abbrev pub invariant-lines : goal.invariant-lines
invariant-lines g l = record {
  again : (goal.iterator-lines g).can_next l.iterator' × (goal.iterator-lines g).is_finite l.iterator';
  hands : AreHandsOf l.desk l.hands.items;
  counted : HaveCounted l.desk l.fn.number l.number (g.B.Read.remaining l.fn.input) (g.B.Read.remaining l.input) l.fn.hands.items l.hands.items;
}
