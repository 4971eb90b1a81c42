use Rattle.std.proofs.Common.{◌≡◌}
use Rattle.mil_trunk.specs.Ends.{IsTicketOf, tags_of, bounds_of, sent}
use Rattle.bench_run.proofs.channel.offer_end.Given as goal

abbrev pub invariant-loop : goal.invariant-loop
invariant-loop g l = record {
  again : (goal.iterator-loop g).can_next l.iterator' × (goal.iterator-loop g).is_finite l.iterator';
  ours : IsTicketOf l.context.trunk.now l.ticket;
  tags : tags_of l.ticket ≡ tags_of l.fn.ticket;
  bounds : bounds_of l.ticket ≡ bounds_of l.fn.ticket;
  sent : sent l.ticket ≡ sent l.fn.ticket;
}
