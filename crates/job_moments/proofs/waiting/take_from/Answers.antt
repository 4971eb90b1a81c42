use Rattle.std.proofs.Common.{◌≡◌, ◌<◌, length, get_or, refl, sym, subst, ◌∙◌, arith}
use Rattle.std.proofs.lemmas.List.{get_or_default}
use Rattle.job_moments.specs.Awaiting.{IsStill, KnowsGroup, Picks}
use Rattle.job_moments.specs.Groups.{lines_inside}
use Rattle.job_moments.proofs.Joined.{all_joined, same_joined}
use Rattle.job_moments.proofs.Lists.{set_done, set_rest, set_all}
use Rattle.job_moments.proofs.Taking.{IsPassed, passed, picks_set}
use Rattle.job_moments.proofs.waiting.take_from.Goals as goal

pub is_quiet_group-requires : goal.is_quiet_group-requires
is_quiet_group-requires g c =
    let i = c.loop-group.group-index in
    subst (KnowsGroup c.args.counts.now) (sym (c.loop-group.invariant.rest i c.group-item.result (omega arith)))
    (c.requires.known i c.group-item.result (omega (arith, c.loop-group-test.true, c.loop-group.auto.groups)))

pub loop-group-preserved-then-is_quiet_group : goal.loop-group-preserved-then-is_quiet_group
loop-group-preserved-then-is_quiet_group g c =
    let i = c.loop-group.group-index in
    let old = c.args.groups.now in
    let now = c.loop-group.groups in
    let made = c.args.counts.now.made in
    let next = c.args.next.now in
    let new = get_or now i c.group-item.result in
    let long : length now ≡ length old = omega (arith, c.loop-group.auto.groups) in
    let there : i < length old = omega (arith, c.loop-group-test.true, long) in
    let same : (d : _) → new ≡ get_or old i d =
    λ d. get_or_default now i c.group-item.result d (omega (arith, long, there)) ∙ c.loop-group.invariant.rest i d (omega arith) in
    record {
      done = set_done (IsPassed lines_inside made next) old now i new long there c.loop-group.invariant.done
          (λ d. subst (λ o. IsPassed lines_inside made next o new) (same d) (record { lines = refl; still = c.is_quiet_group.ensures c.if-is_quiet_group.true }));
      known = set_done (λ o n. KnowsGroup c.args.counts.now n) old now i new long there c.loop-group.invariant.known
          (λ d. subst (KnowsGroup c.args.counts.now) (sym (same c.group-item.result)) (c.requires.known i c.group-item.result there));
      rest = set_rest old now i new c.loop-group.invariant.rest;
    }

pub take_inside-payload-requires-clause-known : goal.take_inside-payload-requires-clause-known
take_inside-payload-requires-clause-known g c =
    let i = c.loop-group.group-index in
    subst (KnowsGroup c.args.counts.now) (sym (c.loop-group.invariant.rest i c.group-item.result (omega arith)))
    (c.requires.known i c.group-item.result (omega (arith, c.loop-group-test.true, c.loop-group.auto.groups)))

pub loop-group-preserved : goal.loop-group-preserved
loop-group-preserved g c =
    let i = c.loop-group.group-index in
    let old = c.args.groups.now in
    let now = c.loop-group.groups in
    let new = c.take_inside-payload.new.group in
    let made = c.args.counts.now.made in
    let next = c.args.next.now in
    let long : length now ≡ length old = omega (arith, c.loop-group.auto.groups) in
    let there : i < length old = omega (arith, c.loop-group-test.true, long) in
    record {
      done = set_done (IsPassed lines_inside made next) old now i new long there c.loop-group.invariant.done
          (λ d. passed lines_inside made next (get_or old i d) new c.take_inside-payload.result (sym c.is_some.ensures ∙ c.if-is_some.false)
          (subst (λ o. Picks made next (lines_inside o) (lines_inside new) c.take_inside-payload.result)
          (get_or_default now i c.group-item.result d (omega (arith, long, there)) ∙ c.loop-group.invariant.rest i d (omega arith))
          c.take_inside-payload.ensures.taken));
      known = set_done (λ o n. KnowsGroup c.args.counts.now n) old now i new long there c.loop-group.invariant.known
          (λ d. c.take_inside-payload.ensures.known);
      rest = set_rest old now i new c.loop-group.invariant.rest;
    }

pub returns-then-is_some-clause-taken : goal.returns-then-is_some-clause-taken
returns-then-is_some-clause-taken g c =
    let long : length c.loop-group.groups ≡ length c.args.groups.now = omega (arith, c.loop-group.auto.groups) in
    picks_set lines_inside c.args.counts.now.made c.args.next.now c.loop-group.group-index c.args.groups.now c.loop-group.groups c.group-item.result
    c.take_inside-payload.new.group c.take_inside-payload.result (sym c.is_some.ensures ∙ c.if-is_some.true) long
    (omega (arith, c.loop-group-test.true, long)) c.loop-group.invariant.done c.loop-group.invariant.rest c.take_inside-payload.ensures.taken

pub returns-then-is_some-clause-known : goal.returns-then-is_some-clause-known
returns-then-is_some-clause-known g c =
    let long : length c.loop-group.groups ≡ length c.args.groups.now = omega (arith, c.loop-group.auto.groups) in
    set_all (KnowsGroup c.args.counts.now) c.args.groups.now c.loop-group.groups c.loop-group.group-index c.take_inside-payload.new.group long
    (omega (arith, c.loop-group-test.true, long)) c.loop-group.invariant.known c.take_inside-payload.ensures.known c.loop-group.invariant.rest c.requires.known

pub returns-clause-taken : goal.returns-clause-taken
returns-clause-taken g c =
    let old = c.args.groups.now in
    let still = IsStill c.args.counts.now.made c.args.next.now in (
      all_joined lines_inside still old (λ k d lt. (c.loop-group.invariant.done k d (omega (arith, lt, c.loop-group-test.false, c.loop-group.auto.groups))).still),
      same_joined lines_inside old c.loop-group.groups (omega (arith, c.loop-group.auto.groups))
          (λ k d lt. (c.loop-group.invariant.done k d (omega (arith, lt, c.loop-group-test.false, c.loop-group.auto.groups))).lines),
    )

pub returns-clause-known : goal.returns-clause-known
returns-clause-known g c = λ k d lt. c.loop-group.invariant.known k d (omega (arith, lt, c.loop-group-test.false, c.loop-group.auto.groups))
