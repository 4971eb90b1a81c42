use Rattle.std.proofs.Common.{sym, ap, subst, ◌∙◌}
use Rattle.std.specs.Prelude.{Ok, Err}
use Rattle.frame_text.specs.Reading.{RefusesScript}
use Rattle.frame_text.specs.Messages.{send_of_text}
use Rattle.controller_text.proofs.Tokens.{message_read, message_refused, message_other}
use Rattle.controller_text.proofs.reading.read_message.Goals as goal

pub returns-then-not-names_line : goal.returns-then-not-names_line
returns-then-not-names_line c = message_other c.args.text.now c.in_ok-line.line.now _ c.in_ok-line.ensures (sym c.names_line.ensures ∙ c.if-not-names_line.true)

pub returns-in-Ok : goal.returns-in-Ok
returns-in-Ok c =
    message_read c.args.text.now c.in_ok-line.line.now _ (Ok c.in-Ok.read) c.in_ok-line.ensures (sym c.names_line.ensures ∙ c.if-not-names_line.false)
    (ap send_of_text (sym c.from_word.ensures) ∙ c.in-Ok.ensures.tree)

pub returns-in-Err : goal.returns-in-Err
returns-in-Err c =
    message_refused c.args.text.now c.in_ok-line.line.now _ c.in-Err.error c.in_ok-line.ensures (sym c.names_line.ensures ∙ c.if-not-names_line.false)
    (subst (λ t. RefusesScript c.in-Err.error (send_of_text t)) c.from_word.ensures c.in-Err.ensures.tree) c.in-Err.ensures.no_memory
    ∙ ap Err (sym c.fault_of.ensures)
