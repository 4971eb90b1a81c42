use Rattle.std.proofs.Common.{◌≡◌, ap, ◌∙◌, unwrap_or}
use Rattle.mil_message.specs.Request.{request_of}
use Rattle.mil_message.specs.Rules.{checked, request_for}
use Rattle.mil_message.proofs.Checked.{checked-request_for}
use Rattle.mil_message.proofs.ReadBack.{asked_back}
use Rattle.mil_message.proofs.messages.Message.draft.Goals as goal

pub returns-clause-same : goal.returns-clause-same
returns-clause-same c =
    asked_back c.args.self.now _ _ _ _ _ _ c.form-lawful.ensures.lawful c.form_number.ensures.number
    (c.value-first.ensures ∙ c.commands-commands.ensures.first) (c.value_of_second-second.ensures ∙ ap (λ o. unwrap_or o 0) c.commands-commands.ensures.second)
    c.data_words.ensures.words c.draft_of.ensures c.in-Some.is

pub returns-clause-accepted : goal.returns-clause-accepted
returns-clause-accepted c =
    let same : request_of c.in-Some.draft ≡ request_for c.args.self.now =
    asked_back c.args.self.now _ _ _ _ _ _ c.form-lawful.ensures.lawful c.form_number.ensures.number
    (c.value-first.ensures ∙ c.commands-commands.ensures.first) (c.value_of_second-second.ensures ∙ ap (λ o. unwrap_or o 0) c.commands-commands.ensures.second)
    c.data_words.ensures.words c.draft_of.ensures c.in-Some.is in
    ap checked same ∙ checked-request_for c.args.self.now c.form-lawful.ensures.lawful
