use Rattle.std.proofs.Common.{◌≡◌, take}
use Rattle.mil_trunk.specs.Ends.{IsTicketOf, tags_of, bounds_of, sent}
use Rattle.mil_tests.proofs.tests.trunks.threads.offer_all.Given as goal

abbrev pub invariant-loop-item : goal.invariant-loop-item
invariant-loop-item g l = record {
  ours : IsTicketOf l.trunk l.ticket;
  tags : tags_of l.ticket ≡ tags_of l.fn.ticket;
  bounds : bounds_of l.ticket ≡ bounds_of l.fn.ticket;
  sent : sent l.ticket ≡ take l.item-index l.items;
}
