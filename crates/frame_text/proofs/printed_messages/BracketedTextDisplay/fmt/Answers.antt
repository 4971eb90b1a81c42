use Rattle.frame_text.proofs.Printed.{bracketed}
use Rattle.frame_text.proofs.printed_messages.BracketedTextDisplay.fmt.Goals as goal

pub returns-clause-writes : goal.returns-clause-writes
returns-clause-writes g c =
    rw (c.in-Some.ensures.cases.0, bracketed c.in-Some.first.now c.in-Some.rest.now) c.write.ensures.writes
