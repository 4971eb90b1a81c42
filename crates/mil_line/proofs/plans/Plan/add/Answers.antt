use Rattle.std.proofs.Common.{◌≡◌, ◌<◌, ◌&&◌, true, List, [], ◌∷◌, ◌++◌, length, OnOk, ap, subst, sym, ◌∙◌, arith}
use Rattle.std.proofs.lemmas.Bool.{and_parts, false≢true}
use Rattle.mil_line.specs.declared.plans.Plan.TheInside.{Inside}
use Rattle.mil_line.specs.Plans.{Planned, faults_of}
use Rattle.mil_line.specs.Ranges.{is_in_range, is_number}
use Rattle.mil_line.specs.StandsFor.{HasOneMore}
use Rattle.mil_line.proofs.Planning.{not_full, stands_as, stands_behind, stands_late}
use Rattle.mil_line.proofs.plans.Plan.add.Goals as goal
use Rattle.mil_line.proofs.plans.Plan.add.Goals.{then-may_end_with, else-may_end_with}

pub invariant_of-self : goal.invariant_of-self
invariant_of-self c =
    let n = c.args.number in
    let fault = c.args.fault in
    let plan = c.self.inside.added in
    let rising = c.self.inside.rising in
    let late = c.self.inside.late in
    let more : List Planned = (n, fault) ∷ [] in
    let fit : (is_number n && is_in_range fault) ≡ true = cc in
    let one = (and_parts (is_number n) (is_in_range fault) fit).1 in
    let found : c.faults-faults.result.items ≡ faults_of n plan = c.faults-faults.ensures.faults ∙ ap (faults_of n) (sym c.self.view_is) in
    let room = not_full (length c.faults-faults.result.items) c.is_full.result c.is_full.ensures.value c.if-is_full.false c.is_full.ensures.fits in
    let less : length (faults_of n plan) < 4 = omega (arith, room, ap length found) in
    elim c.if-may_end_with.branch [
      | then-may_end_with w ↦
          let done = sym w.kept-is ∙ c.in-Ok.is in
          let pushed : w.push-kept.new.self ≡ rising ++ more = subst (λ r. OnOk r (w.push-kept.new.self ≡ rising ++ more)) done w.push-kept.ensures.ok in
          let stands = stands_behind rising late plan n fault c.self.invariant one less (c.may_end_with.ensures.0 w.if-may_end_with.true) in
          stands_as (rising ++ more) c.if-may_end_with.self-inside.rising late c.if-may_end_with.self-inside.late (plan ++ more) c.put_behind.result
          (ap (λ (s : Inside). s.rising) w.self-inside-is ∙ pushed)
          (ap (λ (s : Inside). s.late) w.self-inside-is)
          (c.put_behind.ensures ∙ ap (λ (s : Inside). s.added ++ more) w.self-inside-is)
          stands
      | else-may_end_with w ↦
          let done = sym w.kept-is ∙ c.in-Ok.is in
          let new = w.add_late-kept.new.late in
          let added : HasOneMore n fault late new = subst (λ r. OnOk r (HasOneMore n fault late new)) done w.add_late-kept.ensures.ok in
          let stands = stands_late rising late new plan n fault c.self.invariant one less (λ behind. false≢true (sym w.if-may_end_with.false ∙ c.may_end_with.ensures.1 behind)) added in
          stands_as rising c.if-may_end_with.self-inside.rising new c.if-may_end_with.self-inside.late (plan ++ more) c.put_behind.result
          (ap (λ (s : Inside). s.rising) w.self-inside-is)
          (ap (λ (s : Inside). s.late) w.self-inside-is)
          (c.put_behind.ensures ∙ ap (λ (s : Inside). s.added ++ more) w.self-inside-is)
          stands
    ]
