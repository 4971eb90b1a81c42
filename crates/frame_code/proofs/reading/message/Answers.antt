use Rattle.std.proofs.Common.{◌∷◌, ◌++◌, ap, ◌∙◌}
use Rattle.frame_code.specs.Bytes.{two_bytes, line_number, message_bytes}
use Rattle.frame_code.proofs.Images.{spelled_behind}
use Rattle.frame_code.proofs.reading.message.Goals as goal

pub returns-clause-spelled : goal.returns-clause-spelled
returns-clause-spelled c =
    spelled_behind c.body.result (λ x. message_bytes x.0 ++ x.1.now) _ c.args.bytes.now
    (c.in_ok-form.ensures.spelled ∙ ap (λ bs. c.in_ok-form.form ∷ bs) (c.in_ok-line.ensures.spelled ∙ ap (λ bs. line_number c.in_ok-line.line ∷ bs) (c.in_ok-first.ensures.spelled ∙ ap (λ bs. two_bytes c.in_ok-first.first ++ bs) c.in_ok-second.ensures.spelled)))
    c.body.ensures.spelled
