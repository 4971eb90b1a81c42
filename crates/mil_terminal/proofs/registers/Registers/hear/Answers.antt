use Rattle.std.proofs.Common.{refl, sym, ◌∙◌}
use Rattle.mil_terminal.proofs.Hears.{hear_none, hear_item, hear_silent, hear_opening}
use Rattle.mil_terminal.proofs.registers.Registers.hear.Goals as goal

pub returns-in-Some-clause-stands : goal.returns-in-Some-clause-stands
returns-in-Some-clause-stands c = λ h is.
    rw c.open.ensures (hear_opening c.args.self.now c.args.self.now.window c.args.line c.in-Some.command c.args.sound.now c.args.gap h (rw (← is.settings.broadcast, ← c.in-Some.ensures) refl) is)

pub returns-then-same_line-clause-stands : goal.returns-then-same_line-clause-stands
returns-then-same_line-clause-stands c = λ h is.
    hear_item c.args.self.now c.in-Some-window.pending c.take_word.new.self c.args.line c.args.sound.now c.args.gap h
    c.in-Some-window.is (rw (← is.settings.broadcast, ← c.in-None.ensures) refl) (sym c.same_line.ensures ∙ c.if-same_line.true) c.take_word.ensures.line c.take_word.ensures.command c.take_word.ensures.pending is

pub returns-else-same_line-clause-stands : goal.returns-else-same_line-clause-stands
returns-else-same_line-clause-stands c = λ h is.
    hear_silent c.args.self.now c.in-Some-window.pending c.args.line c.args.sound.now c.args.gap h
    c.in-Some-window.is (rw (← is.settings.broadcast, ← c.in-None.ensures) refl) (sym c.same_line.ensures ∙ c.if-same_line.false) is

pub returns-in_default-clause-stands : goal.returns-in_default-clause-stands
returns-in_default-clause-stands c = λ h is. hear_none c.args.self.now c.args.line c.args.sound.now c.args.gap h c.in_default.is (rw (← is.settings.broadcast, ← c.in-None.ensures) refl) is
