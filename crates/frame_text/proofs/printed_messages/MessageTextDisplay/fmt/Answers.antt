use Rattle.frame_text.proofs.Printed.{mode_command_left}
use Rattle.frame_text.proofs.printed_messages.MessageTextDisplay.fmt.Goals as goal

pub returns-in_default-clause-writes : goal.returns-in_default-clause-writes
returns-in_default-clause-writes g c =
    let none = c.in_default in
    let command = mode_command_left c.form.result.now none.not-ToTerminal none.not-FromTerminal none.not-Between none.not-ToAll none.not-BetweenAll in
    rw (← c.form.ensures.value) (rw command at c.write-in_default.ensures.writes)
