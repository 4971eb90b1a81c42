use Rattle.std.proofs.Common.{◌≡◌, Some, None, sym, ap, ◌∙◌, refl}
use Rattle.std.proofs.lemmas.Result.{err_from_is_err_and}
use Rattle.frame_code.specs.Fields.{words_due}
use Rattle.frame_code.proofs.Lawful.{parts, whole}
use Rattle.frame_code.proofs.Images.{words_fail, words_read, body_spelled}
use Rattle.frame_code.proofs.reading.body.Goals as goal

pub returns-in_err-words-clause-message : goal.returns-in_err-words-clause-message
returns-in_err-words-clause-message c =
    let due : c.in_ok-count.count ≡ words_due c.args.form c.args.first = cc (c.if-count-from.false, c.from.ensures, c.words_due.ensures.due, c.of.ensures) in
    let p = err_from_is_err_and c.from_residual-in_err-words.result c.from_residual-in_err-words.ensures.1 in
    rw (p.1, p.2) (words_fail c.args.form c.args.line c.args.first c.args.second c.args.bytes.now c.in_ok-count.rest.now c.in_ok-count.count c.in_err-words.field-0.0 c.in_ok-count.ensures.two due c.in_err-words.ensures.words)

pub returns-in-Some-clause-message : goal.returns-in-Some-clause-message
returns-in-Some-clause-message c =
    let due : c.in_ok-count.count ≡ words_due c.args.form c.args.first = cc (c.if-count-from.false, c.from.ensures, c.words_due.ensures.due, c.of.ensures) in
    let ws = c.in_ok-words.words.items in
    let w = whole c.args.form c.requires.form c.args.first c.args.second ws c.requires.first c.requires.second (c.in_ok-words.ensures.count ∙ due) in
    let same : Some c.in-Some.message ≡ Some w.message = (c.in-Some.ensures.exact w.message).1 (w.lawful, w.same ∙ ap (parts c.args.form c.args.first c.args.second) (sym c.deref.ensures.0)) in
    words_read c.args.form c.args.line c.args.first c.args.second c.args.bytes.now c.in_ok-count.rest.now c.in_ok-count.count ws c.in_ok-words.rest.now c.in-Some.message c.in_ok-count.ensures.two due c.in_ok-words.ensures.words (w.found ∙ sym same)

pub returns-in-Some-clause-spelled : goal.returns-in-Some-clause-spelled
returns-in-Some-clause-spelled c =
    let ws = c.in_ok-words.words.items in
    let m = (c.in-Some.ensures.exact c.in-Some.message).0 refl in
    body_spelled c.args.form c.args.first c.args.second c.in_ok-count.count c.args.line ws c.args.bytes.now c.in_ok-count.rest.now c.in_ok-words.rest.now c.in-Some.message (m.1 ∙ ap (parts c.args.form c.args.first c.args.second) c.deref.ensures.0) c.in_ok-words.ensures.count c.in_ok-count.ensures.spelled c.in_ok-words.ensures.spelled

pub returns-in-None-clause-message : goal.returns-in-None-clause-message
returns-in-None-clause-message c =
    let due : c.in_ok-count.count ≡ words_due c.args.form c.args.first = cc (c.if-count-from.false, c.from.ensures, c.words_due.ensures.due, c.of.ensures) in
    let ws = c.in_ok-words.words.items in
    let w = whole c.args.form c.requires.form c.args.first c.args.second ws c.requires.first c.requires.second (c.in_ok-words.ensures.count ∙ due) in
    let no : None ≡ Some w.message = (c.in-None.ensures.exact w.message).1 (w.lawful, w.same ∙ ap (parts c.args.form c.args.first c.args.second) (sym c.deref.ensures.0)) in
    absurd (cc)
