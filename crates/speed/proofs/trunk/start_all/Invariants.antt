use Rattle.std.proofs.Common.{◌≡◌, ◌<◌, ◌≤◌, ℕ, [], true}
use Rattle.mil_trunk.specs.Ends.{IsTicketOf, bounds_of, tags_of, sent}
use Rattle.mil_trunk.specs.Tags.{has}
use Rattle.speed.proofs.trunk.start_all.Given as goal

abbrev pub invariant-loop-tag : goal.invariant-loop-tag
invariant-loop-tag g l = record {
  ours : IsTicketOf l.trunk l.rest;
  sent : sent l.rest ≡ [];
  tags : (t : ℕ) → l.tag ≤ t → t < 64 → has (tags_of l.rest) t ≡ true;
  bounds : bounds_of l.rest ≡ bounds_of l.fn.rest;
}
