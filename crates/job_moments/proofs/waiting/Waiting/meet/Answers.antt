use Rattle.std.proofs.Common.{All, sym, subst}
use Rattle.job_moments.specs.Awaiting.{due_of, HasItsCounter, KnowsGroup, SleepBeside}
use Rattle.job_moments.specs.Counting.{Counted}
use Rattle.job_moments.proofs.Grouping.{beside_later, groups_later}
use Rattle.job_moments.proofs.waiting.Waiting.meet.Goals as goal

pub invariant_of-self : goal.invariant_of-self
invariant_of-self g c =
    let groups = c.self.inside.groups.items in
    let near = c.self.inside.near in
    let counts = c.self.inside.counts in
    let met = c.args.met.now in
    record {
      known = subst (λ (cs : Counted). All (KnowsGroup cs) groups) (sym c.meet.ensures)
          (groups_later (HasItsCounter counts.selectors) due_of counts.made met groups c.self.invariant.known);
      beside = subst (λ (cs : Counted). SleepBeside cs.made near.others near.place groups) (sym c.meet.ensures)
          (beside_later due_of counts.made met near.others near.place groups c.self.invariant.beside);
      count = c.self.invariant.count;
    }
