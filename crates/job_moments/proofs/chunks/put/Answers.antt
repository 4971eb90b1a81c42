use Rattle.std.proofs.Common.{◌++◌, ◌∷◌, [], refl, sym, ap, subst, ◌∙◌, arith}
use Rattle.std.proofs.lemmas.Grind.{common_steps}
use Rattle.job_moments.specs.Chunks.{behind, Puts}
use Rattle.job_moments.proofs.Chunking.{puts_none, puts_new, behind_ok}
use Rattle.job_moments.proofs.chunks.put.Goals.{in-Ok, in-Err}
use Rattle.job_moments.proofs.chunks.put.Goals as goal

pub returns-then-is_err : goal.returns-then-is_err
returns-then-is_err g c = puts_none _ _ refl

pub returns : goal.returns
returns g c =
    let old = c.args.chunks.now.items in
    let new = c.push.new.self.items in
    elim c.match-push.branch [
      | in-Ok w ↦
          subst (λ more. Puts old new more) (sym (ap (λ r. behind c.args.line r) w.result-is))
          (puts_new old new c.put.new.self (c.args.line ∷ [])
          (grind (arith, common_steps, c.push.ensures.items, w.in-Ok.is))
          (c.put.ensures.lines ∙ ap (λ ls. ls ++ behind c.args.line c.put.result) c.new.ensures.items
          ∙ behind_ok c.args.line c.put.result (sym c.is_err.ensures.value ∙ c.if-is_err.false))
          c.put.ensures.quiet)
      | in-Err w ↦
          subst (λ more. Puts old new more) (sym (ap (λ r. behind c.args.line r) w.result-is))
          (puts_none old new (grind (arith, common_steps, c.push.ensures.items, w.in-Err.is)))
    ]
