use Rattle.mil_bus.specs.Exchange.{hearing}
use Rattle.mil_bus.proofs.Indexing.{hearing-own, index-map}
use Rattle.mil_bus.proofs.terminals.Terminals.hear_decoded.Goals as goal

pub invariant_of-self : goal.invariant_of-self
invariant_of-self c = (
  rw c.tell_all-self-inside.ensures.heard (index-map (hearing c.args.line c.args.sent.now) c.self.inside.places c.self.inside.list.items (hearing-own c.args.line c.args.sent.now) c.self.invariant.0),
  c.tell_all-self-inside.ensures.closed,
)
