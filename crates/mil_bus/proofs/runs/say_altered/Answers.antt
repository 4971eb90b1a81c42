use Rattle.std.proofs.Common.{◌≡◌, ℕ, ◌+◌, ◌-◌, List, ◌++◌, length, length-append, take, sym, ap, ◌∙◌, arith}
use Rattle.std.proofs.lemmas.Bool.Decides.{nat_tests}
use Rattle.mil_line.specs.Faults.{altered, gap_of}
use Rattle.mil_bus.specs.declared.talks.Sent.{Sent}
use Rattle.mil_bus.specs.Exchange.{run_sent, words_of_run, all_hearing}
use Rattle.mil_bus.specs.Offers.{offer_in}
use Rattle.mil_bus.specs.Wholes.{value_waves}
use Rattle.mil_bus.proofs.OneRun.{run_sent-some}
use Rattle.mil_bus.proofs.runs.say_altered.Goals as goal

pub returns-clause-said : goal.returns-clause-said
returns-clause-said c =
    let r = c.args.run.now in
    let v = c.args.values.now in
    let waves = ap (λ (n : ℕ). take (40 - n) (altered c.args.faults.now r.number (value_waves v.commands v.words.items))) c.len-room.ensures.value in
    let said : run_sent (40 - length c.args.sent.now.items) c.args.faults.now r.number (offer_in r v) ≡ words_of_run r.number r.source c.reply_gap.result c.altered_words-given.result.items =
    run_sent-some _ _ _ _ _ _ (c.altered_words-given.ensures ∙ waves) (c.reply_gap.ensures ∙ ap (λ (n : ℕ). gap_of c.args.faults.now n r.gap) c.from.ensures) in
    let words : c.words_of_run-words.result.items ≡ run_sent (40 - length c.args.sent.now.items) c.args.faults.now r.number (offer_in r v) =
    c.words_of_run-words.ensures ∙ ap (words_of_run r.number r.source c.reply_gap.result) c.as_slice.ensures.value ∙ sym said in
    record {
      sent = c.put_each.ensures ∙ ap (λ ws. c.args.sent.now.items ++ ws) (c.as_slice-2.ensures.value ∙ words);
      stations = c.hear_each.ensures ∙ ap (λ ws. all_hearing c.args.line ws c.args.terminals.now) (c.as_slice-3.ensures.value ∙ words);
    }

pub returns-clause-some : goal.returns-clause-some
returns-clause-some c =
    let words = c.words_of_run-words.result.items in
    let long : length c.put_each.new.self.items ≡ length c.args.sent.now.items + length words =
    ap length c.put_each.ensures ∙ length-append c.args.sent.now.items c.as_slice-2.result.now ∙ ap (λ (ws : List Sent). length c.args.sent.now.items + length ws) c.as_slice-2.ensures.value in
    grind (arith, nat_tests)
