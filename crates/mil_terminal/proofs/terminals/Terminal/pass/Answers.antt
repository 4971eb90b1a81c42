use Rattle.std.proofs.Common.{◌∷◌}
use Rattle.mil_terminal.specs.declared.events.Event.TheVariants.{Heard}
use Rattle.mil_terminal.proofs.Passing.{passes_word, listening_stays}
use Rattle.mil_terminal.proofs.terminals.Terminal.pass.Goals as goal

pub invariant_of-self : goal.invariant_of-self
invariant_of-self c =
    rw c.put_before.ensures
    (passes_word c.self.inside.registers c.args.line c.args.wave c.args.gap c.self.inside.past (rw (← c.self.view_is) at c.requires.other) (rw (← c.self.view_is) at c.requires.closed) c.self.invariant)

pub returns-then-not-is_off-clause-listening : goal.returns-then-not-is_off-clause-listening
returns-then-not-is_off-clause-listening c =
    rw (c.put_before.ensures, ← c.self.view_is)
    (listening_stays c.self.inside.registers c.self.inside.past (Heard c.args.line c.args.wave c.args.gap ∷ c.self.inside.past) c.self.invariant
    (passes_word c.self.inside.registers c.args.line c.args.wave c.args.gap c.self.inside.past (rw (← c.self.view_is) at c.requires.other) (rw (← c.self.view_is) at c.requires.closed) c.self.invariant))
