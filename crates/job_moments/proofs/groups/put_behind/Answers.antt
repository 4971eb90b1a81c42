use Rattle.std.proofs.Common.{◌∷◌, [], refl, sym, ap, subst, ◌∙◌, arith}
use Rattle.std.proofs.lemmas.Grind.{common_steps}
use Rattle.job_moments.specs.Chunks.{behind, Puts}
use Rattle.job_moments.specs.Groups.{PutsGroup}
use Rattle.job_moments.proofs.Chunking.{behind_ok}
use Rattle.job_moments.proofs.Grouping.{group_none, group_new}
use Rattle.job_moments.proofs.groups.put_behind.Goals.{in-Ok, in-Err}
use Rattle.job_moments.proofs.groups.put_behind.Goals as goal

pub returns-then-is_err : goal.returns-then-is_err
returns-then-is_err g c = group_none _ _ refl

pub returns : goal.returns
returns g c =
    let old = c.args.groups.now.items in
    let new = c.push.new.self.items in
    elim c.match-push.branch [
      | in-Ok w ↦
          subst (λ more. PutsGroup old new more) (sym (ap (λ r. behind c.args.line r) w.result-is))
          (group_new old new c.put.new.self (c.args.line ∷ [])
          (grind (arith, common_steps, c.push.ensures.items, w.in-Ok.is))
          (subst (λ more. Puts [] c.put.new.self.chunks.items more)
          (behind_ok c.args.line c.put.result (sym c.is_err.ensures.value ∙ c.if-is_err.false))
          (subst (λ cs. Puts cs c.put.new.self.chunks.items (behind c.args.line c.put.result)) c.new.ensures.items c.put.ensures.lines))
          c.put.ensures.quiet)
      | in-Err w ↦
          subst (λ more. PutsGroup old new more) (sym (ap (λ r. behind c.args.line r) w.result-is))
          (group_none old new (grind (arith, common_steps, c.push.ensures.items, w.in-Err.is)))
    ]
