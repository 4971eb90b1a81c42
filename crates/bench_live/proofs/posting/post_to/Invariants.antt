use Rattle.std.proofs.Common.{◌≡◌}
use Rattle.bench_mail.specs.Mail.{posted}
use Rattle.bench_live.specs.Posting.{IsHandOf}
use Rattle.bench_live.proofs.posting.post_to.Given as goal

-- nothing was posted yet
abbrev pub invariant-loop : goal.invariant-loop
invariant-loop g l = record {
  again : (goal.iterator-loop g).can_next l.iterator' × (goal.iterator-loop g).is_finite l.iterator';
  hand : IsHandOf l.mailbox l.hand;
  posted : posted l.hand.poster ≡ posted l.fn.hand.poster;
  count : l.hand.count ≡ l.fn.hand.count;
  action : l.action ≡ l.fn.post.action;
}
