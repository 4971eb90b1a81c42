use Rattle.std.proofs.Common.{◌≡◌, ◌+◌, ◌<◌, ◌++◌, ◌∷◌, [], take, length, sym, ap, ◌∙◌, arith, append_assoc}
use Rattle.std.proofs.lemmas.List.{take_more, take_all}
use Rattle.mil_bus.specs.Wholes.{whole_words}
use Rattle.mil_bus.proofs.KeptRuns.{whole_words-length}
use Rattle.mil_bus.proofs.sent_words.put_words.Goals as goal

pub loop-i-preserved : goal.loop-i-preserved
loop-i-preserved c =
    let l = c.loop-i in
    let old = c.args.words.now.items in
    let all = whole_words c.args.run.now c.args.values.now in
    let w = c.word.result in
    let lt : l.i < length all = omega (arith, whole_words-length c.args.run.now c.args.values.now, c.loop-i-test.true) in
    let more : take (l.i + 1) all ≡ take l.i all ++ w ∷ [] = take_more all l.i w lt ∙ ap (λ v. take l.i all ++ v ∷ []) (c.word.ensures w) in
    record {
      words = c.push.ensures.items ∙ ap (λ xs. xs ++ w ∷ []) l.invariant.words ∙ append_assoc old (take l.i all) (w ∷ []) ∙ ap (λ xs. old ++ xs) (sym more);
      count = omega (arith, c.push.ensures.len, l.invariant.count);
    }

pub returns : goal.returns
returns c =
    let all = whole_words c.args.run.now c.args.values.now in
    c.loop-i.invariant.words ∙ ap (λ xs. c.args.words.now.items ++ xs) (take_all c.loop-i.i all (omega (arith, whole_words-length c.args.run.now c.args.values.now, c.loop-i.auto.i-end)))
