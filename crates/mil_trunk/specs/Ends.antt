-- What a contract says of a trunk, its tickets and its taker.
use Rattle.std.specs.Prelude.{◌≡◌, ℕ, ◌≤◌, List}
use Rattle.crossbeam_queue.specs.Passes.{view, IsPassOf, ruled_capacity}
use Rattle.mil_trunk.specs.declared.trunk.Trunk.{Trunk}
use Rattle.mil_trunk.specs.declared.trunk.Ticket.{Ticket}
use Rattle.mil_trunk.specs.declared.trunk.Taker.{Taker}
use Rattle.mil_trunk.specs.Views.{ticket, taker}

-- the capacities that a trunk may have (own choice)
abbrev pub IsCapacity : ℕ → Type 0
IsCapacity capacity = (1 ≤ capacity) × (capacity ≤ 4096)

module _ {T : Type 0} where
  -- how many items the trunk holds at most
  abbrev pub capacity_of : Trunk T → ℕ
  capacity_of trunk = ruled_capacity trunk.queue

  -- the tags that the ticket holds
  abbrev pub tags_of : Ticket T → ℕ
  tags_of t = (view t.pass).tags

  -- the bounds of the tags 0, 1, ..: how many items of a tag may be sent in all
  abbrev pub bounds_of : Ticket T → List ℕ
  bounds_of t = (view t.pass).bounds

  -- what was sent with the ticket, oldest first
  abbrev pub sent : Ticket T → List T
  sent t = (view t.pass).sent

  -- what was received with the taker, oldest first
  abbrev pub received : Taker T → List T
  received t = (view t.pass).received

  -- the ticket is one of this trunk
  abbrev pub IsTicketOf : Trunk T → Ticket T → Type 0
  IsTicketOf trunk t = IsPassOf trunk.queue t.pass × (view t.pass ≡ ticket (bounds_of t) (tags_of t) (sent t))

  -- the bounds that the taker knows, which are those of its trunk
  abbrev pub bounds_in : Taker T → List ℕ
  bounds_in t = (view t.pass).bounds

  -- the taker is that of this trunk
  abbrev pub IsTakerOf : Trunk T → Taker T → Type 0
  IsTakerOf trunk t = IsPassOf trunk.queue t.pass × (view t.pass ≡ taker (bounds_in t) (received t))
