use Rattle.bench_check.specs.Listing.{HasTold}
use Rattle.bench_check.specs.Trying.{IsTried, steps_left}
use Rattle.bench_check.proofs.trying.Trial.run.Given as goal

abbrev pub invariant-steps : goal.invariant-steps
invariant-steps g l = IsTried l.job l.self × HasTold l.job l.self.machine (g.W.Write.contents l.fn.out) (g.W.Write.contents l.out)

abbrev pub decreases-steps : goal.decreases-steps
decreases-steps g l = steps_left l.self.machine
