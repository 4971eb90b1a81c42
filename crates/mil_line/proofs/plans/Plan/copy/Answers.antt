use Rattle.std.proofs.Common.{◌≡◌, refl}
use Rattle.mil_line.proofs.Planning.{same_entries, stands_as, stands_same}
use Rattle.mil_line.proofs.plans.Plan.copy.Goals as goal

pub invariant_of-result : goal.invariant_of-result
invariant_of-result c =
    let new = c.in_ok-clone.field-0 in
    let same : new.entries ≡ c.self.inside.late.entries = same_entries c.self.inside.late.entries new.entries c.in_ok-clone.ensures.cases in
    let stands = stands_same c.self.inside.rising c.self.inside.late new c.self.inside.added c.self.invariant same in
    stands_as c.self.inside.rising c.in_ok-copy.field-0 new new c.self.inside.added c.same.result c.in_ok-copy.ensures refl c.same.ensures stands
