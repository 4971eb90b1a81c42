use Rattle.std.proofs.Common.{◌∙◌, ap}
use Rattle.mil_bus.specs.Exchange.{quieted, first_reply}
use Rattle.mil_bus.proofs.Indexing.{quieted-own, index-map}
use Rattle.mil_bus.proofs.Stations.{first_reply-is}
use Rattle.mil_bus.proofs.terminals.Terminals.quiet.Goals as goal

pub returns-clause-first : goal.returns-clause-first
returns-clause-first c =
    c.tell_all-self-inside.ensures.first ∙ first_reply-is c.args.line c.self.inside.list.items ∙ ap (first_reply c.args.line) c.self.view_is

pub invariant_of-self : goal.invariant_of-self
invariant_of-self c = (
  rw c.tell_all-self-inside.ensures.heard (index-map (quieted c.args.line) c.self.inside.places c.self.inside.list.items (quieted-own c.args.line) c.self.invariant.0),
  c.tell_all-self-inside.ensures.closed,
)
