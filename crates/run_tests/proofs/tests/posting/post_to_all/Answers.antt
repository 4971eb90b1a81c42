use Rattle.std.proofs.Common.{rules, arith, refl, sym, ap, ◌∙◌, ◌≡◌, ◌<◌, ◌+◌, suc, length, vec_len, subst}
use Rattle.std.specs.Prelude.{Some, slice_get}
use Rattle.std.proofs.lemmas.Option.{slice_get_read}
use Rattle.bench_mail.specs.declared.mailbox.Mailbox.{Mailbox}
use Rattle.bench_run.proofs.Rows.{row_first, row_rest}
use Rattle.bench_mail.specs.Mail.{MayPost}
use Rattle.run_tests.proofs.tests.posting.post_to_all.Goals as goal

pub loop-poster-init : goal.loop-poster-init
loop-poster-init g c =
    let all : length c.args.posters.items ≡ vec_len c.args.posters = search rules in
    let gives = c.into_iter-poster-iterator.ensures.into_iter_gives in
    record {
      left = omega (arith, all, gives.1, c.requires.as_many);
      each = λ k p at box at_box. c.requires.each k box p (let here : 0 + k ≡ k = omega arith in subst (λ m. slice_get c.args.boxes.now m ≡ Some box) here at_box) (ap (λ l. slice_get l k) (sym gives.0) ∙ at);
    }

pub post_words-requires : goal.post_words-requires
post_words-requires g c =
    let was = c.loop-poster.invariant in
    let step = c.in-Some.ensures.steps in
    let boxes = c.args.boxes.now in
    let n = c.loop-poster.place in
    let lt : n < length boxes = omega (arith, step.1, was.left) in
    let at : slice_get boxes n ≡ Some c.index-boxes-place.result = slice_get_read boxes (length boxes) n c.index-boxes-place.result refl lt c.index-boxes-place.is in
    let here : n ≡ n + 0 = omega arith in
    row_first (λ k p. (box : Mailbox) → slice_get boxes (n + k) ≡ Some box → MayPost c.args.host box p) _ _ c.in-Some.poster step.0 was.each
    c.index-boxes-place.result (subst (λ m. slice_get boxes m ≡ Some c.index-boxes-place.result) here at)

pub loop-poster-preserved : goal.loop-poster-preserved
loop-poster-preserved g c =
    let was = c.loop-poster.invariant in
    let step = c.in-Some.ensures.steps in
    let boxes = c.args.boxes.now in
    let n = c.loop-poster.place in
    record {
      left = omega (arith, was.left, step.1);
      each = λ k p at box at_box. row_rest (λ i q. (b : Mailbox) → slice_get boxes (n + i) ≡ Some b → MayPost c.args.host b q) _ _ c.in-Some.poster step.0 was.each k p at box
          (let more : (n + 1) + k ≡ n + suc k = omega arith in subst (λ m. slice_get boxes m ≡ Some box) more at_box);
    }
