use Rattle.std.proofs.Common.{◌≡◌, ◌<◌, length, sym, ap, subst, ◌∙◌, arith}
use Rattle.std.proofs.lemmas.List.{get_or_default}
use Rattle.job_moments.specs.Groups.{lines_inside}
use Rattle.job_moments.specs.Rules.{KnowsGroup}
use Rattle.job_moments.proofs.Joined.{same_joined}
use Rattle.job_moments.proofs.Lists.{set_done, set_rest}
use Rattle.job_moments.proofs.planning.learn_groups.Goals as goal

pub learn_inside-requires-clause-known : goal.learn_inside-requires-clause-known
learn_inside-requires-clause-known c =
    let i = c.loop-group.group-index in
    subst (KnowsGroup c.args.counts.now) (sym (c.loop-group.invariant.rest i c.group-item.result (omega arith)))
    (c.requires.known i c.group-item.result (omega (arith, c.loop-group-test.true, c.loop-group.auto.groups)))

pub loop-group-preserved : goal.loop-group-preserved
loop-group-preserved c =
    let i = c.loop-group.group-index in
    let old = c.args.groups.now in
    let now = c.loop-group.groups in
    let long : length now ≡ length old = omega (arith, c.loop-group.auto.groups) in
    let there : i < length old = omega (arith, c.loop-group-test.true, long) in
    record {
      done = set_done (λ o n. lines_inside n ≡ lines_inside o) old now i c.learn_inside.new.group long there c.loop-group.invariant.done
          (λ d. c.learn_inside.ensures.lines ∙ ap lines_inside (get_or_default now i c.group-item.result d (omega (arith, long, there)))
          ∙ ap lines_inside (c.loop-group.invariant.rest i d (omega arith)));
      known = set_done (λ o n. KnowsGroup c.args.counts.now n) old now i c.learn_inside.new.group long there c.loop-group.invariant.known
          (λ d. c.learn_inside.ensures.known);
      rest = set_rest old now i c.learn_inside.new.group c.loop-group.invariant.rest;
    }

pub returns-clause-lines : goal.returns-clause-lines
returns-clause-lines c = same_joined lines_inside _ _ (omega (arith, c.loop-group.auto.groups))
    (λ k d lt. c.loop-group.invariant.done k d (omega (arith, lt, c.loop-group-test.false, c.loop-group.auto.groups)))
