use Rattle.std.proofs.Common.{◌+◌, ◌++◌, List, ℕ, take, ap, sym, ◌∙◌, append_assoc}
use Rattle.job_moments.specs.declared.planning.Rule.{Rule}
use Rattle.job_moments.specs.Planning.{place_at, places_from}
use Rattle.job_moments.specs.Rules.{planned_of, plans_of}
use Rattle.job_moments.proofs.Places.{places_more}
use Rattle.job_moments.proofs.placing.add_places.Goals as goal

pub loop-index-preserved : goal.loop-index-preserved
loop-index-preserved c =
    let made = c.args.counts.now.made in
    let next = c.args.next.now in
    let first = c.args.first in
    let rules = c.args.rules.now in
    let i = c.loop-index.index in
    let one = c.index-rules-index.result in
    let old = c.args.places.now.items in
    let before = places_from made next first (plans_of (take i rules)) in
    c.in_ok-add_place.ensures
    ∙ ap (λ (ks : List ℕ). ks ++ place_at made next (first + i) (planned_of one)) c.loop-index.invariant
    ∙ append_assoc old before (place_at made next (first + i) (planned_of one))
    ∙ ap (λ (r : Rule). old ++ (before ++ place_at made next (first + i) (planned_of r))) c.index-rules-index.is
    ∙ ap (λ (ks : List ℕ). old ++ ks) (sym (places_more made next first rules i one c.loop-index-test.true))
