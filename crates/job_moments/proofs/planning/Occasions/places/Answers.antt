use Rattle.std.proofs.Common.{length, ap, arith}
use Rattle.job_moments.specs.Groups.{lines_of_groups}
use Rattle.job_moments.proofs.planning.Occasions.places.Goals as goal

pub add_due_places-requires-clause-room : goal.add_due_places-requires-clause-room
add_due_places-requires-clause-room c =
    omega (arith, c.self.invariant.count, ap length (ap lines_of_groups c.deref.ensures.value))
