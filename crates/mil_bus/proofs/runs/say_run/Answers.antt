use Rattle.std.proofs.Common.{◌≡◌, ◌+◌, ◌-◌, ◌++◌, length, length-append, sym, ap, ◌∙◌, arith}
use Rattle.std.specs.Prelude.{nat_lt}
use Rattle.std.proofs.lemmas.Bool.Decides.{nat_tests}
use Rattle.std.proofs.lemmas.List.{take_all}
use Rattle.mil_bus.specs.Exchange.{run_sent, contiguous_run, all_hearing}
use Rattle.mil_bus.specs.Offers.{offer_in}
use Rattle.mil_bus.specs.Wholes.{value_waves}
use Rattle.mil_bus.specs.DataRuns.{run_words}
use Rattle.mil_bus.proofs.KeptRuns.{value_waves-length, words_of-length}
use Rattle.mil_bus.proofs.Untouched.{run_sent-untouched}
use Rattle.mil_bus.proofs.runs.say_run.Goals as goal
use Rattle.mil_bus.proofs.runs.say_run.Goals.{else-is_empty-via-then-is_empty+else-put_whole, else-is_empty-via-else-is_empty}

pub returns-then-put_whole-clause-said : goal.returns-then-put_whole-clause-said
returns-then-put_whole-clause-said c =
    let room = 40 - length c.args.sent.now.items in
    let r = c.args.run.now in
    let v = c.args.values.now in
    let waves = value_waves v.commands v.words.items in
    let fit = c.put_whole.ensures.room c.if-put_whole.true in
    let whole : run_sent room c.args.faults.now r.number (offer_in r v) ≡ contiguous_run r.number r.source r.gap waves =
    run_sent-untouched room c.args.faults.now r.number (offer_in r v) (sym c.is_empty.ensures ∙ c.if-is_empty.true)
    ∙ ap (contiguous_run r.number r.source r.gap) (take_all room waves (omega (arith, fit, value_waves-length v.commands v.words.items))) in
    record {
      sent = c.put_whole.ensures.put c.if-put_whole.true ∙ ap (λ ws. c.args.sent.now.items ++ ws) (sym whole);
      stations = c.hear_whole.ensures ∙ ap (λ ws. all_hearing c.args.line ws c.args.terminals.now) (sym whole);
    }

pub returns-then-put_whole-clause-some : goal.returns-then-put_whole-clause-some
returns-then-put_whole-clause-some c =
    let v = c.args.values.now in
    let words = run_words c.args.run.now (value_waves v.commands v.words.items) in
    let long : length c.put_whole.new.self.items ≡ length c.args.sent.now.items + length words =
    ap length (c.put_whole.ensures.put c.if-put_whole.true) ∙ length-append c.args.sent.now.items words in
    let many : length words ≡ length v.words.items = words_of-length c.args.run.now.number c.args.run.now.source c.args.run.now.gap (value_waves v.commands v.words.items) ∙ value_waves-length v.commands v.words.items in
    let some = c.put_whole.ensures.some c.if-put_whole.true in
    grind (arith, nat_tests)

pub returns-else-is_empty-clause-said : goal.returns-else-is_empty-clause-said
returns-else-is_empty-clause-said c =
    let r = c.args.run.now in
    let o = offer_in r c.args.values.now in
    let same : c.else-is_empty.sent.items ≡ c.args.sent.now.items = elim c.else-is_empty.branch [
      | else-is_empty-via-then-is_empty+else-put_whole w ↦ ap (λ s. s.items) (w.sent-is ∙ w.put_whole.ensures.kept w.if-put_whole.false)
      | else-is_empty-via-else-is_empty w ↦ ap (λ s. s.items) w.sent-is
    ] in
    record {
      sent = c.say_altered.ensures.said.sent ∙ ap (λ sent. sent ++ run_sent (40 - length sent) c.args.faults.now r.number o) same;
      stations = c.say_altered.ensures.said.stations ∙ ap (λ sent. all_hearing c.args.line (run_sent (40 - length sent) c.args.faults.now r.number o) c.args.terminals.now) same;
    }

pub returns-else-is_empty-clause-some : goal.returns-else-is_empty-clause-some
returns-else-is_empty-clause-some c =
    let same : c.else-is_empty.sent.items ≡ c.args.sent.now.items = elim c.else-is_empty.branch [
      | else-is_empty-via-then-is_empty+else-put_whole w ↦ ap (λ s. s.items) (w.sent-is ∙ w.put_whole.ensures.kept w.if-put_whole.false)
      | else-is_empty-via-else-is_empty w ↦ ap (λ s. s.items) w.sent-is
    ] in
    c.say_altered.ensures.some ∙ ap (λ sent. nat_lt (length sent) (length c.say_altered.new.sent.items)) same
