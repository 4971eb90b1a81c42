use Rattle.std.proofs.Common.{sym, ◌∙◌}
use Rattle.controller_text.proofs.Printed.{written_at_once, written_held}
use Rattle.controller_text.proofs.printing.InsertionTextDisplay.fmt.Goals as goal

pub returns-then-tick-eq0-clause-writes : goal.returns-then-tick-eq0-clause-writes
returns-then-tick-eq0-clause-writes g c =
    rw (written_at_once c.args.self.now.0.now (sym c.tick-tick.ensures.value ∙ c.if-tick-eq0.true))
    (rw (c.line.ensures, c.message.ensures.value) at c.write.ensures.writes)

pub returns-else-tick-eq0-clause-writes : goal.returns-else-tick-eq0-clause-writes
returns-else-tick-eq0-clause-writes g c =
    rw (written_held c.args.self.now.0.now (λ zeroth. c.if-tick-eq0.false (c.tick-tick.ensures.value ∙ zeroth)))
    (rw (c.tick-tick.ensures.value, c.line.ensures, c.message.ensures.value) at c.write-else-tick-eq0.ensures.writes)
