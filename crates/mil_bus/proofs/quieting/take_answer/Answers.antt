use Rattle.std.proofs.Common.{sym, ap, ◌∙◌}
use Rattle.std.specs.Option.{option_map}
use Rattle.mil_terminal.specs.Replies.{reply_if}
use Rattle.mil_bus.specs.Exchange.{offer_of}
use Rattle.mil_bus.proofs.Answering.{given_reply}
use Rattle.mil_bus.proofs.quieting.take_answer.Goals as goal

pub returns-in-Some-clause-first : goal.returns-in-Some-clause-first
returns-in-Some-clause-first c =
    let words = c.quiet_into.new.words.items in
    let is = sym (ap (λ gap. reply_if gap words) c.in-Some.is) ∙ c.quiet_into.ensures.reply in
    rw c.address-own.ensures.value (given_reply c.args.terminal.now.own c.in-Some.gap words _ is)

pub returns-in_default-clause-first : goal.returns-in_default-clause-first
returns-in_default-clause-first c =
    let words = c.quiet_into.new.words.items in
    rw c.requires (ap (option_map (offer_of c.args.terminal.now.own)) (sym (ap (λ gap. reply_if gap words) c.in_default.is) ∙ c.quiet_into.ensures.reply))
