use Rattle.std.proofs.Common.{◌≡◌, ◌++◌, take}
use Rattle.job_moments.specs.Planning.{places_from}
use Rattle.job_moments.specs.Rules.{plans_of}
use Rattle.job_moments.proofs.placing.add_places.Given as goal

-- the places of the rules so far
abbrev pub invariant-loop-index : goal.invariant-loop-index
invariant-loop-index l = l.places.items
    ≡ l.fn.places.items ++ places_from l.counts.made l.next l.first (plans_of (take l.index l.rules))
