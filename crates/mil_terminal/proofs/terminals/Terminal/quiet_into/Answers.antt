use Rattle.std.proofs.Common.{◌≡◌, true, false, sym, ◌∙◌}
use Rattle.mil_terminal.specs.Host.{is_off}
use Rattle.mil_terminal.proofs.Passing.{reply_off, reply_on}
use Rattle.mil_terminal.proofs.terminals.Terminal.quiet_into.Goals as goal

pub returns-then-is_off-clause-reply : goal.returns-then-is_off-clause-reply
returns-then-is_off-clause-reply g c =
    let off : is_off c.self.inside.past ≡ true = sym (c.is_off.ensures c.self.inside.past c.self.invariant) ∙ c.if-is_off.true in
    rw (← c.self.view_is) (sym (reply_off c.self.inside.registers.own c.args.line c.self.inside.past off))

pub returns-clause-reply : goal.returns-clause-reply
returns-clause-reply g c =
    let on : is_off c.self.inside.past ≡ false = sym (c.is_off.ensures c.self.inside.past c.self.invariant) ∙ c.if-is_off.false in
    rw (← c.self.view_is) (c.quiet-gap.ensures.reply c.self.inside.past c.self.invariant ∙ sym (reply_on c.self.inside.registers.own c.args.line c.self.inside.past on))
