use Rattle.std.proofs.Common.{length-drop, drop, sym, ◌∙◌, arith}
use Rattle.std.proofs.lemmas.List.{take_all}
use Rattle.frame_text.proofs.Lexing.{word_at, more_word, one_byte, no_bytes, ends_there, stops_there}
use Rattle.frame_text.proofs.tokens.token.Goals as goal
use Rattle.frame_text.proofs.tokens.token.Goals.{then-loop-end-test+else-is_word_byte, else-loop-end-test}

pub returns-in_default-clause-tokens : goal.returns-in_default-clause-tokens
returns-in_default-clause-tokens c = no_bytes c.args.text.now c.in_default.ensures.cases

pub returns-then-not-is_word_byte-clause-tokens : goal.returns-then-not-is_word_byte-clause-tokens
returns-then-not-is_word_byte-clause-tokens c = one_byte c.args.text.now c.in-Some.after.now c.in-Some.first.now c.in-Some.ensures.cases.0 c.requires (sym c.is_word_byte.ensures ∙ c.if-not-is_word_byte.true)

pub loop-end-preserved : goal.loop-end-preserved
loop-end-preserved c = record {
  some = omega arith;
  inside = omega arith;
  word = more_word c.args.text.now c.loop-end.end c.loop-end.invariant.word (sym c.is_word_byte-in-loop-end.ensures ∙ c.if-is_word_byte.true);
}

pub returns-clause-tokens : goal.returns-clause-tokens
returns-clause-tokens c =
    let bs = c.args.text.now in
    let n = c.loop-end.end in
    word_at n bs _ c.loop-end.invariant.some c.loop-end.invariant.inside c.loop-end.invariant.word
    (elim c.loop-end-test.branch [
      | then-loop-end-test+else-is_word_byte w ↦ stops_there n bs w.loop-end-test.true (sym w.is_word_byte-in-loop-end.ensures ∙ w.if-is_word_byte.false)
      | else-loop-end-test w ↦ ends_there n bs w.loop-end-test.false
    ])
    (take_all _ (drop n bs) (omega (arith, length-drop n bs)))
