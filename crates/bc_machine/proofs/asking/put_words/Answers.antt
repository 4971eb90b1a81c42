use Rattle.std.proofs.Common.{◌<◌, length, get_or, ap, ◌∙◌, arith}
use Rattle.std.proofs.lemmas.List.{get_or_default}
use Rattle.mil_message.specs.Forms.{data_words, with_data_words}
use Rattle.bc_machine.proofs.Filled.{put_step, put_over_is}
use Rattle.bc_machine.proofs.asking.put_words.Goals as goal

pub loop-i-preserved : goal.loop-i-preserved
loop-i-preserved c =
    let ws = c.args.words.now in
    let i = c.loop-i.i in
    let many = ap length c.data_words-count.ensures.words in
    let first : i < length ws = omega (arith, c.loop-i-test.true, c.min-i-end.ensures) in
    let second : i < length (data_words c.args.sent.now) = omega (arith, c.loop-i-test.true, c.min-i-end.ensures, many) in
    c.put_data_word.ensures ∙ put_step i ws (get_or ws i 0) c.args.sent.now c.loop-i.sent first second (get_or_default ws i 0 (get_or ws i 0) first) c.loop-i.invariant

pub returns : goal.returns
returns c =
    let form = c.args.sent.now in
    let many = ap length c.data_words-count.ensures.words in
    c.loop-i.invariant
    ∙ ap (λ v. with_data_words v form)
    (put_over_is c.loop-i.i c.args.words.now (data_words form) (omega (arith, c.loop-i-test.false, c.loop-i.auto.i-end, c.min-i-end.ensures, many)))
