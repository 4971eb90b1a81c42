use Rattle.std.proofs.Common.{◌≡◌, All, length, ap, sym, subst, ◌∙◌, arith}
use Rattle.std.proofs.lemmas.List.{with_items_is}
use Rattle.std.proofs.lemmas.List.Elements.{All-same}
use Rattle.job_moments.specs.Groups.{lines_of_groups}
use Rattle.job_moments.specs.Counting.{Counted}
use Rattle.job_moments.specs.Rules.{occasion_of, HasItsCounter, KnowsGroup}
use Rattle.job_moments.proofs.Grouping.{groups_later}
use Rattle.job_moments.proofs.planning.Occasions.meet.Goals as goal

pub learn_groups-requires-clause-known : goal.learn_groups-requires-clause-known
learn_groups-requires-clause-known c =
    let groups = c.self.inside.groups.items in
    let counts = c.self.inside.counts in
    All-same (KnowsGroup c.meet.new.self) c.deref_mut.result.now groups c.deref_mut.ensures.value
    (subst (λ (cs : Counted). All (KnowsGroup cs) groups) (sym c.meet.ensures)
    (groups_later (HasItsCounter counts.selectors) occasion_of counts.made c.args.met.now groups c.self.invariant.known))

pub invariant_of-self : goal.invariant_of-self
invariant_of-self c =
    let groups = c.self.inside.groups in
    let new = c.learn_groups.new.groups in
    let long : length new ≡ groups.len = omega (arith, c.learn_groups.auto.groups, c.deref_mut.ensures.len) in
    let items = with_items_is groups new long in
    let lines : lines_of_groups new ≡ lines_of_groups groups.items = c.learn_groups.ensures.lines ∙ ap lines_of_groups c.deref_mut.ensures.value in
    record {
      known = All-same (KnowsGroup c.meet.new.self) _ new items c.learn_groups.ensures.known;
      count = c.self.invariant.count ∙ sym (ap length (ap lines_of_groups items ∙ lines));
    }
