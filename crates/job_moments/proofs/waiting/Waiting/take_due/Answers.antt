use Rattle.std.proofs.Common.{◌≡◌, ◌+◌, true, false, length, ap, sym, subst, ◌∙◌, arith}
use Rattle.std.specs.Prelude.{is_some, if◌then◌else◌}
use Rattle.std.specs.Vec.{with_items}
use Rattle.std.proofs.lemmas.List.{with_items_is}
use Rattle.std.proofs.lemmas.List.Elements.{All-same}
use Rattle.job_moments.specs.Awaiting.{awaited_of, KnowsGroup, Picks, SleepBeside}
use Rattle.job_moments.specs.Groups.{lines_of_groups}
use Rattle.job_moments.specs.Waits.{Waits, Taken}
use Rattle.job_moments.proofs.Taking.{as_many, picks_taken}
use Rattle.job_moments.proofs.waiting.Waiting.take_due.Goals as goal

pub invariant_of-self : goal.invariant_of-self
invariant_of-self g c =
    let groups = c.self.inside.groups in
    let made = c.self.inside.counts.made in
    let next = c.args.next.now in
    let given = c.take_near-payload.result in
    let new = c.take_near-payload.new.groups in
    let long : length new ≡ groups.len = omega (arith, c.take_near-payload.auto.groups, c.deref_mut.ensures.len) in
    let items = with_items_is groups new long in
    let taken = subst (λ cs. Picks made next (lines_of_groups cs) (lines_of_groups new) given) c.deref_mut.ensures.value c.take_near-payload.ensures.taken in
    let yes : is_some given ≡ true = sym c.is_some.ensures ∙ c.if-is_some.true in
    let many = subst (λ b. length (lines_of_groups new) + (if b then 1 else 0) ≡ length (lines_of_groups groups.items)) yes
    (as_many made next (lines_of_groups groups.items) (lines_of_groups new) given taken) in
    record {
      known = All-same (KnowsGroup c.self.inside.counts) _ new items c.take_near-payload.ensures.known;
      beside = subst (SleepBeside made c.take_near-payload.new.near.others c.take_near-payload.new.near.place) (sym items)
          c.take_near-payload.ensures.beside;
      count = omega (arith, c.self.invariant.count, many, ap length (ap lines_of_groups items));
    }

pub invariant_of-self-else-is_some : goal.invariant_of-self-else-is_some
invariant_of-self-else-is_some g c =
    let groups = c.self.inside.groups in
    let made = c.self.inside.counts.made in
    let next = c.args.next.now in
    let given = c.take_near-payload.result in
    let new = c.take_near-payload.new.groups in
    let long : length new ≡ groups.len = omega (arith, c.take_near-payload.auto.groups, c.deref_mut.ensures.len) in
    let items = with_items_is groups new long in
    let taken = subst (λ cs. Picks made next (lines_of_groups cs) (lines_of_groups new) given) c.deref_mut.ensures.value c.take_near-payload.ensures.taken in
    let no : is_some given ≡ false = sym c.is_some.ensures ∙ c.if-is_some.false in
    let many = subst (λ b. length (lines_of_groups new) + (if b then 1 else 0) ≡ length (lines_of_groups groups.items)) no
    (as_many made next (lines_of_groups groups.items) (lines_of_groups new) given taken) in
    record {
      known = All-same (KnowsGroup c.self.inside.counts) _ new items c.take_near-payload.ensures.known;
      beside = subst (SleepBeside made c.take_near-payload.new.near.others c.take_near-payload.new.near.place) (sym items)
          c.take_near-payload.ensures.beside;
      count = omega (arith, c.self.invariant.count, many, ap length (ap lines_of_groups items));
    }

pub returns-then-is_some-clause-taken : goal.returns-then-is_some-clause-taken
returns-then-is_some-clause-taken g c =
    let groups = c.self.inside.groups in
    let made = c.self.inside.counts.made in
    let next = c.args.next.now in
    let given = c.take_near-payload.result in
    let new = c.take_near-payload.new.groups in
    let long : length new ≡ groups.len = omega (arith, c.take_near-payload.auto.groups, c.deref_mut.ensures.len) in
    let taken = subst (λ cs. Picks made next (lines_of_groups cs) (lines_of_groups new) given) c.deref_mut.ensures.value c.take_near-payload.ensures.taken in
    let inside = subst (λ cs. Taken made next (awaited_of (lines_of_groups groups.items)) (awaited_of (lines_of_groups cs)) given)
    (sym (with_items_is groups new long)) (picks_taken made next (lines_of_groups groups.items) (lines_of_groups new) given taken) in
    subst (λ (v : Waits g.row.T.Denot). Taken v.made next v.left (awaited_of (lines_of_groups (with_items groups new).items)) given) c.self.view_is inside

pub returns-else-is_some-clause-taken : goal.returns-else-is_some-clause-taken
returns-else-is_some-clause-taken g c =
    let groups = c.self.inside.groups in
    let made = c.self.inside.counts.made in
    let next = c.args.next.now in
    let given = c.take_near-payload.result in
    let new = c.take_near-payload.new.groups in
    let long : length new ≡ groups.len = omega (arith, c.take_near-payload.auto.groups, c.deref_mut.ensures.len) in
    let taken = subst (λ cs. Picks made next (lines_of_groups cs) (lines_of_groups new) given) c.deref_mut.ensures.value c.take_near-payload.ensures.taken in
    let inside = subst (λ cs. Taken made next (awaited_of (lines_of_groups groups.items)) (awaited_of (lines_of_groups cs)) given)
    (sym (with_items_is groups new long)) (picks_taken made next (lines_of_groups groups.items) (lines_of_groups new) given taken) in
    subst (λ (v : Waits g.row.T.Denot). Taken v.made next v.left (awaited_of (lines_of_groups (with_items groups new).items)) given) c.self.view_is inside
