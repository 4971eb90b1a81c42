use Rattle.std.proofs.Common.{◌≡◌, true, false, sym, ◌∷◌, ◌∙◌}
use Rattle.mil_terminal.specs.Host.{is_off}
use Rattle.mil_terminal.specs.declared.events.Event.TheVariants.{Quiet}
use Rattle.mil_terminal.proofs.Passing.{passes_quiet, listening_stays, reply_on, reply_off}
use Rattle.mil_terminal.proofs.terminals.Terminal.pass_quiet.Goals as goal

pub invariant_of-self : goal.invariant_of-self
invariant_of-self c =
    rw c.put_before.ensures
    (passes_quiet c.self.inside.registers c.args.line c.self.inside.past (rw (← c.self.view_is) at c.requires) c.self.invariant).stands

pub returns-then-not-is_off-clause-silent : goal.returns-then-not-is_off-clause-silent
returns-then-not-is_off-clause-silent c =
    let plain : c.is_off.result ≡ false = cc in
    let on : is_off c.self.inside.past ≡ false = sym (c.is_off.ensures c.self.inside.past c.self.invariant) ∙ plain in
    rw (← c.self.view_is)
    (reply_on c.self.inside.registers.own c.args.line c.self.inside.past on
    ∙ sym (passes_quiet c.self.inside.registers c.args.line c.self.inside.past (rw (← c.self.view_is) at c.requires) c.self.invariant).silent)

pub returns-else-not-is_off-clause-silent : goal.returns-else-not-is_off-clause-silent
returns-else-not-is_off-clause-silent c =
    let plain : c.is_off.result ≡ true = cc in
    let off : is_off c.self.inside.past ≡ true = sym (c.is_off.ensures c.self.inside.past c.self.invariant) ∙ plain in
    rw (← c.self.view_is) (reply_off c.self.inside.registers.own c.args.line c.self.inside.past off)

pub returns-then-not-is_off-clause-listening : goal.returns-then-not-is_off-clause-listening
returns-then-not-is_off-clause-listening c =
    rw (c.put_before.ensures, ← c.self.view_is)
    (listening_stays c.self.inside.registers c.self.inside.past (Quiet c.args.line ∷ c.self.inside.past) c.self.invariant
    (passes_quiet c.self.inside.registers c.args.line c.self.inside.past (rw (← c.self.view_is) at c.requires) c.self.invariant).stands)
