use Rattle.std.proofs.Common.{◌∙◌, ◌∷◌, ap, arith}
use Rattle.frame_code.proofs.Pairs.{pair_spelled}
use Rattle.frame_code.proofs.reading.two.Goals as goal

pub returns-clause-spelled : goal.returns-clause-spelled
returns-clause-spelled c =
    c.in_ok-low.ensures.spelled ∙ ap (λ bs. c.in_ok-low.low ∷ bs) c.in_ok-high.ensures.spelled ∙ pair_spelled c.in_ok-low.low c.in_ok-high.high c.in_ok-high.rest.now _ c.in_ok-low.ensures.range (omega arith)
