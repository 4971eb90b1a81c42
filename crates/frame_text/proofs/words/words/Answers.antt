use Rattle.std.proofs.Common.{◌++◌, ◌∷◌, [], length, take, sym, ap, ◌∙◌, arith}
use Rattle.frame_text.specs.Tokens.{tokens}
use Rattle.frame_text.specs.Words.{words_at}
use Rattle.frame_text.proofs.Reading.{put_none, words_more, words_close, words_wrong, words_end, wrong_counted, close_counted, take_again}
use Rattle.frame_text.proofs.words.words.Goals as goal

pub loop-word-init : goal.loop-word-init
loop-word-init c = record {
  read = ([], c.new-found.ensures, put_none (words_at (tokens c.args.text.now)));
  fewer = omega arith;
}

pub loop-word-preserved : goal.loop-word-preserved
loop-word-preserved c =
    let i = c.loop-word.invariant.read in
    let v = c.in-Some-data_word_in.value in
    record {
      read = (
        i.0 ++ v ∷ [],
        c.keep.ensures ∙ ap (λ xs. take 33 (xs ++ v ∷ [])) i.1 ∙ take_again 33 i.0 (v ∷ []),
        words_more i.0 v c.in-Some.word.now (tokens c.loop-word.rest.now) (tokens c.in-Some.after.now) _ c.in-Some.ensures.tokens (sym c.is.ensures ∙ c.if-is.false) c.in-Some-data_word_in.ensures i.2,
      );
      fewer = omega (arith, c.loop-word.invariant.fewer, ap length c.in-Some.ensures.tokens);
    }

pub returns-then-is-clause-tree : goal.returns-then-is-clause-tree
returns-then-is-clause-tree c =
    let i = c.loop-word.invariant.read in
    close_counted i.0 c.loop-word.found.items _ (tokens c.in-Some.after.now) i.1 (words_close i.0 c.in-Some.word.now (tokens c.loop-word.rest.now) (tokens c.in-Some.after.now) _ c.in-Some.ensures.tokens (sym c.is.ensures ∙ c.if-is.true) i.2)

pub returns-in_default-data_word_in-clause-tree : goal.returns-in_default-data_word_in-clause-tree
returns-in_default-data_word_in-clause-tree c =
    let i = c.loop-word.invariant.read in
    wrong_counted c.unspelled_fault.result _ (tokens c.loop-word.rest.now) _ c.unspelled_fault.ensures.is (words_wrong i.0 c.in-Some.word.now (tokens c.loop-word.rest.now) (tokens c.in-Some.after.now) _ c.in-Some.ensures.tokens (sym c.is.ensures ∙ c.if-is.false) c.in_default-data_word_in.ensures i.2)

pub returns-clause-tree : goal.returns-clause-tree
returns-clause-tree c =
    let i = c.loop-word.invariant.read in
    wrong_counted c.fault.result _ (tokens c.loop-word.rest.now) _ c.fault.ensures.is (words_end i.0 (tokens c.loop-word.rest.now) _ c.in_default.ensures.tokens i.2)
