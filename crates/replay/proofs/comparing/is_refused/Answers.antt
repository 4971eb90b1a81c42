use Rattle.std.proofs.Common.{ℕ, eqb, subst, ap, sym, ◌∙◌}
use Rattle.std.specs.List.{list_any}
use Rattle.bench_report.specs.Reports.{Rises}
use Rattle.replay.proofs.Refused.{found}
use Rattle.replay.proofs.comparing.is_refused.Goals as goal

pub returns : goal.returns
returns c =
    let rises : Rises 0 c.args.part.now.made c.refused.result.now = subst (Rises 0 c.args.part.now.made) (sym c.refused.ensures.value) c.refused.ensures.part.refused in
    c.is_ok.ensures.value
    ∙ found c.args.part.now.made c.args.number c.refused.result.now c.binary_search.result rises c.binary_search.ensures.position
    ∙ ap (list_any (λ (n : ℕ). eqb n c.args.number)) c.refused.ensures.value
