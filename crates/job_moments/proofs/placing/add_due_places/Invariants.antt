use Rattle.std.proofs.Common.{◌≡◌, ◌++◌, length, take}
use Rattle.job_moments.specs.Groups.{lines_of_groups}
use Rattle.job_moments.specs.Planning.{places_from}
use Rattle.job_moments.specs.Rules.{plans_of}
use Rattle.job_moments.proofs.placing.add_due_places.Given as goal

-- the places of the groups so far, and how many rules these have
abbrev pub invariant-loop-group : goal.invariant-loop-group
invariant-loop-group l = record {
  places : l.places.items
      ≡ l.fn.places.items ++ places_from l.counts.made l.next 0 (plans_of (lines_of_groups (take l.group-index l.groups)));
  first : l.first ≡ length (lines_of_groups (take l.group-index l.groups));
}
