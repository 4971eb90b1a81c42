use Rattle.std.proofs.Common.{◌<◌, ◌≤◌, ◌++◌, ◌∷◌, [], List, length, ap, sym, subst, ◌∙◌, arith}
use Rattle.std.proofs.lemmas.Bool.Decides.{nat_tests}
use Rattle.mil_line.specs.declared.faults.Fault.{Fault}
use Rattle.job_moments.specs.Rules.{planned_of}
use Rattle.job_moments.proofs.Planned.{due_more, due_same, due_full}
use Rattle.job_moments.proofs.planning.add.Goals.{else-not-is_full-via-then-not-is_full+else-is_due, else-not-is_full-via-else-not-is_full}
use Rattle.job_moments.proofs.planning.add.Goals as goal

pub returns-then-is_due : goal.returns-then-is_due
returns-then-is_due c = λ before is.
    let few : length c.args.faults.now.items < 4 = grind (arith, nat_tests) in
    c.push.ensures.items
    ∙ ap (λ (fs : List Fault). fs ++ c.args.rule.now.fault ∷ []) is
    ∙ sym (due_more c.args.counts.now.made c.args.next.now before (planned_of c.args.rule.now)
    (sym c.is_due.ensures ∙ c.if-is_due.true)
    (subst (λ (fs : List Fault). length fs < 4) is few))

pub returns-else-not-is_full : goal.returns-else-not-is_full
returns-else-not-is_full c = λ before is. is ∙ sym (elim c.else-not-is_full.branch [
  | else-not-is_full-via-then-not-is_full+else-is_due w ↦
      due_same c.args.counts.now.made c.args.next.now before (planned_of c.args.rule.now) (sym w.is_due.ensures ∙ w.if-is_due.false)
  | else-not-is_full-via-else-not-is_full w ↦
      due_full c.args.counts.now.made c.args.next.now before (planned_of c.args.rule.now)
      (subst (λ (fs : List Fault). 4 ≤ length fs) is (grind (arith, nat_tests, w.if-not-is_full.false)))
])
