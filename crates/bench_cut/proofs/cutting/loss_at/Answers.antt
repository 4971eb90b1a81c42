use Rattle.std.proofs.Common.{ℕ, get_or, ap, ◌∙◌, arith}
use Rattle.std.proofs.lemmas.List.{get_or_default}
use Rattle.bench_cut.specs.Losses.{no_loss}
use Rattle.bench_cut.proofs.cutting.loss_at.Goals as goal

pub returns : goal.returns
returns c = get_or_default c.args.losses.now c.from-place.result _ no_loss (omega (arith, c.from-place.ensures, c.requires)) ∙ ap (λ (k : ℕ). get_or c.args.losses.now k no_loss) c.from-place.ensures
