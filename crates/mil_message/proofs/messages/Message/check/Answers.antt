use Rattle.std.proofs.Common.{sym}
use Rattle.mil_message.specs.Request.{request_of}
use Rattle.mil_message.proofs.Checked.{lawful-checked, accepts}
use Rattle.mil_message.proofs.messages.Message.check.Goals as goal

pub invariant_of-result : goal.invariant_of-result
invariant_of-result c = lawful-checked (request_of c.args.draft) _ (sym c.in_ok-form.ensures)

pub returns-clause-accepted : goal.returns-clause-accepted
returns-clause-accepted c = λ form. accepts (request_of c.args.draft) _ form c.in_ok-form.ensures
