use Rattle.std.proofs.Common.{Option, sym, subst, arith}
use Rattle.std.specs.Option.{IfSome}
use Rattle.circular_buffer.specs.Buffer.{Buffer}
use Rattle.replay.specs.declared.checkpoints.Stop.{Stop}
use Rattle.replay.specs.Standings.{IsAmong}
use Rattle.replay.proofs.Stops.{among_last}
use Rattle.replay.proofs.timeline.note.Goals as goal

pub returns-in-Some-clause-kept : goal.returns-in-Some-clause-kept
returns-in-Some-clause-kept c =
    subst (λ (saved : Option Stop). IfSome saved (IsAmong c.push_back.new.self.items)) (sym c.in-Some.is)
    (subst (λ (b : Buffer Stop). IsAmong b.items c.in-Some.stop) (sym c.push_back.ensures.items)
    (among_last c.args.recent.now.items c.in-Some.stop c.args.recent.now.capacity (omega (arith, c.requires))))
