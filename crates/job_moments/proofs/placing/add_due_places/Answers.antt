use Rattle.std.proofs.Common.{◌≡◌, ◌+◌, ◌++◌, List, ℕ, length, take, ap, sym, subst, ◌∙◌, arith, append_assoc}
use Rattle.job_moments.specs.declared.chunks.Chunk.{Chunk}
use Rattle.job_moments.specs.declared.groups.Group.{Group}
use Rattle.job_moments.specs.declared.planning.Rule.{Rule}
use Rattle.job_moments.specs.Chunks.{lines_of}
use Rattle.job_moments.specs.Groups.{lines_inside, lines_of_groups}
use Rattle.job_moments.specs.Planning.{places_from}
use Rattle.job_moments.specs.Rules.{plans_of, KnowsGroup}
use Rattle.job_moments.proofs.Joined.{joined_long, joined_few}
use Rattle.job_moments.proofs.Places.{places_in_more}
use Rattle.job_moments.proofs.placing.add_due_places.Goals as goal

behind_none : (k n : ℕ) → k ≡ n → k ≡ 0 + n
behind_none k n same = omega (arith, same)

pub add_places_inside-requires-clause-known : goal.add_places_inside-requires-clause-known
add_places_inside-requires-clause-known c = subst (KnowsGroup c.args.counts.now) (sym c.group-item.is)
    (c.requires.known c.loop-group.group-index c.group-item.result c.loop-group-test.true)

pub add_places_inside-requires-clause-room : goal.add_places_inside-requires-clause-room
add_places_inside-requires-clause-room c =
    let groups = c.args.groups.now in
    let i = c.loop-group.group-index in
    let one = c.group-item.result in
    omega (
      arith,
      c.loop-group.invariant.first,
      joined_long lines_inside groups i one c.loop-group-test.true,
      joined_few lines_inside groups (i + 1),
      ap (λ (k : Group Rule). length (lines_inside k)) c.group-item.is,
      c.requires.room,
    )

pub number_of-first-requires : goal.number_of-first-requires
number_of-first-requires c =
    let groups = c.args.groups.now in
    let i = c.loop-group.group-index in
    let one = c.group-item.result in
    omega (
      arith,
      c.loop-group.invariant.first,
      joined_long lines_inside groups i one c.loop-group-test.true,
      joined_few lines_inside groups (i + 1),
      ap (λ (k : Group Rule). length (lines_inside k)) c.group-item.is,
      c.requires.room,
      ap (λ (ks : List (Chunk Rule)). length (lines_of ks)) c.deref.ensures.value,
    )

pub overflow_add-first : goal.overflow_add-first
overflow_add-first c =
    let groups = c.args.groups.now in
    let i = c.loop-group.group-index in
    let one = c.group-item.result in
    omega (
      arith,
      c.loop-group.invariant.first,
      joined_long lines_inside groups i one c.loop-group-test.true,
      joined_few lines_inside groups (i + 1),
      ap (λ (k : Group Rule). length (lines_inside k)) c.group-item.is,
      c.requires.room,
      ap (λ (ks : List (Chunk Rule)). length (lines_of ks)) c.deref.ensures.value,
      c.number_of-first.ensures,
    )

pub loop-group-preserved : goal.loop-group-preserved
loop-group-preserved c =
    let made = c.args.counts.now.made in
    let next = c.args.next.now in
    let groups = c.args.groups.now in
    let i = c.loop-group.group-index in
    let one = c.group-item.result in
    let old = c.args.places.now.items in
    let before = places_from made next 0 (plans_of (lines_of_groups (take i groups))) in
    let first = c.loop-group.invariant.first in
    let long = length (lines_of_groups (take i groups)) in
    record {
      places =
          c.in_ok-add_places_inside.ensures
          ∙ ap (λ (ks : List ℕ). ks ++ places_from made next c.loop-group.first (plans_of (lines_inside one))) c.loop-group.invariant.places
          ∙ append_assoc old before (places_from made next c.loop-group.first (plans_of (lines_inside one)))
          ∙ ap (λ k. old ++ (before ++ places_from made next k (plans_of (lines_inside one)))) (behind_none c.loop-group.first long first)
          ∙ ap (λ (k : Group Rule). old ++ (before ++ places_from made next (0 + long) (plans_of (lines_inside k)))) c.group-item.is
          ∙ ap (λ (ks : List ℕ). old ++ ks) (sym (places_in_more lines_inside made next 0 groups i one c.loop-group-test.true));
      first = omega (
        arith,
        first,
        joined_long lines_inside groups i one c.loop-group-test.true,
        ap (λ (k : Group Rule). length (lines_inside k)) c.group-item.is,
        ap (λ (ks : List (Chunk Rule)). length (lines_of ks)) c.deref.ensures.value,
        c.number_of-first.ensures,
      );
    }
