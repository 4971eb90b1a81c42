use Rattle.std.proofs.Common.{◌≡◌, length}
use Rattle.mil_trunk.specs.Ends.{IsTicketOf, bounds_of, tags_of, sent}
use Rattle.speed.proofs.trunk.send_all.Given as goal

abbrev pub invariant-loop-number : goal.invariant-loop-number
invariant-loop-number g l = record {
  ours : IsTicketOf l.trunk l.ticket;
  tags : tags_of l.ticket ≡ tags_of l.fn.ticket;
  bounds : bounds_of l.ticket ≡ bounds_of l.fn.ticket;
  sent : length (sent l.ticket) ≡ l.number;
}
