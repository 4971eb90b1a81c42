use Rattle.std.proofs.Common.{◌≡◌, ◌+◌, ◌++◌, ◌∷◌, [], List, map, take, sym, ap, ◌∙◌}
use Rattle.std.proofs.lemmas.List.{take_more, map-append}
use Rattle.job_moments.specs.Planning.{PlannedFault, PlanState}
use Rattle.job_file.specs.declared.timed.TimedFault.{TimedFault}
use Rattle.job_file.specs.TimedParts.{planned_by}
use Rattle.job_file.proofs.job_run.occasions.Goals as goal

abbrev planned : List PlannedFault → PlanState
planned faults = record { faults = faults; made = [] }

pub loop-one-preserved : goal.loop-one-preserved
loop-one-preserved c =
    let lines = c.args.faults.now in
    let i = c.loop-one.one-index in
    let one : TimedFault = c.one-item.result in
    let before : c.loop-one.all.faults ≡ map planned_by (take i lines) = ap (λ (p : PlanState). p.faults) c.loop-one.invariant in
    let next : take (i + 1) lines ≡ take i lines ++ one ∷ [] = take_more lines i one c.loop-one-test.true ∙ ap (λ (f : TimedFault). take i lines ++ f ∷ []) (sym c.one-item.is) in
    c.in_ok-push.ensures.pushed
    ∙ ap (λ (fs : List PlannedFault). planned (fs ++ planned_by one ∷ [])) before
    ∙ ap planned (sym (map-append planned_by (take i lines) (one ∷ [])))
    ∙ ap (λ (fs : List TimedFault). planned (map planned_by fs)) (sym next)
