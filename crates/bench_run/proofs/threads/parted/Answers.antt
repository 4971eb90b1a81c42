use Rattle.std.proofs.Common.{rules, arith, sym, ap, ◌∙◌, ◌≡◌, ◌++◌, ◌∷◌, [], length, map, vec_len}
use Rattle.std.specs.Vec.Iter.{into_iter_items}
use Rattle.std.proofs.lemmas.List.{append_assoc}
use Rattle.bench_run.specs.declared.threads.Joined.{Joined}
use Rattle.bench_run.proofs.threads.parted.Goals as goal

pub loop-one-init : goal.loop-one-init
loop-one-init c =
    let gives = c.into_iter-one-iterator.ensures.into_iter_gives in
    let long : length c.args.parts.items ≡ vec_len c.args.parts = search rules in
    let long' : length c.args.inboxes.items ≡ vec_len c.args.inboxes = search rules in
    let none = ap length c.requires.parts.0 in
    let none' = ap length c.requires.inboxes.0 in
    record {
      left = omega (arith, gives.1, long, none);
      left_too = omega (arith, gives.1, long', none');
      room = c.requires.parts.1;
      room_too = c.requires.inboxes.1;
      parts = rw c.requires.parts.0 (ap (map (λ (j : Joined). j.part)) gives.0);
      inboxes = rw c.requires.inboxes.0 (ap (map (λ (j : Joined). j.inbox)) gives.0);
    }

pub push_reserved-requires : goal.push_reserved-requires
push_reserved-requires c =
    let was = c.loop-one.invariant in
    let step = c.in-Some.ensures.steps in
    omega (arith, was.left, was.room, step.1)

pub push_reserved-requires-in-loop-one : goal.push_reserved-requires-in-loop-one
push_reserved-requires-in-loop-one c =
    let was = c.loop-one.invariant in
    let step = c.in-Some.ensures.steps in
    omega (arith, was.left_too, was.room_too, step.1)

pub loop-one-preserved : goal.loop-one-preserved
loop-one-preserved c =
    let was = c.loop-one.invariant in
    let step = c.in-Some.ensures.steps in
    let first = c.push_reserved.ensures in
    let second = c.push_reserved-in-loop-one.ensures in
    record {
      left = omega (arith, was.left, step.1, first.len);
      left_too = omega (arith, was.left_too, step.1, second.len);
      room = omega (arith, was.room, first.capacity);
      room_too = omega (arith, was.room_too, second.capacity);
      parts = ap (λ l. l ++ map (λ (j : Joined). j.part) (into_iter_items c.next.new.self)) first.items
          ∙ append_assoc c.loop-one.parts.items (c.in-Some.one.part ∷ []) (map (λ (j : Joined). j.part) (into_iter_items c.next.new.self))
          ∙ ap (λ l. c.loop-one.parts.items ++ map (λ (j : Joined). j.part) l) (sym step.0) ∙ was.parts;
      inboxes = ap (λ l. l ++ map (λ (j : Joined). j.inbox) (into_iter_items c.next.new.self)) second.items
          ∙ append_assoc c.loop-one.inboxes.items (c.in-Some.one.inbox ∷ []) (map (λ (j : Joined). j.inbox) (into_iter_items c.next.new.self))
          ∙ ap (λ l. c.loop-one.inboxes.items ++ map (λ (j : Joined). j.inbox) l) (sym step.0) ∙ was.inboxes;
    }
