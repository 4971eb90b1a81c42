use Rattle.std.proofs.Common.{◌+◌, ◌++◌, List, ℕ, length, take, ap, sym, subst, ◌∙◌, arith, append_assoc}
use Rattle.job_moments.specs.declared.chunks.Chunk.{Chunk}
use Rattle.job_moments.specs.declared.planning.Rule.{Rule}
use Rattle.job_moments.specs.Chunks.{lines_in, lines_of}
use Rattle.job_moments.specs.Planning.{places_from}
use Rattle.job_moments.specs.Rules.{plans_of, KnowsChunk}
use Rattle.job_moments.proofs.Joined.{joined_long, joined_few}
use Rattle.job_moments.proofs.Places.{places_in_more}
use Rattle.job_moments.proofs.placing.add_places_of.Goals as goal

pub add_places_in-requires-clause-known : goal.add_places_in-requires-clause-known
add_places_in-requires-clause-known c = subst (KnowsChunk c.args.counts.now) (sym c.chunk-item.is)
    (c.requires.known c.loop-chunk.chunk-index c.chunk-item.result c.loop-chunk-test.true)

pub add_places_in-requires-clause-room : goal.add_places_in-requires-clause-room
add_places_in-requires-clause-room c =
    let chunks = c.args.chunks.now in
    let i = c.loop-chunk.chunk-index in
    let one = c.chunk-item.result in
    omega (
      arith,
      c.loop-chunk.invariant.place,
      joined_long lines_in chunks i one c.loop-chunk-test.true,
      joined_few lines_in chunks (i + 1),
      ap (λ (k : Chunk Rule). length (lines_in k)) c.chunk-item.is,
      c.requires.room,
    )

pub overflow_add-place : goal.overflow_add-place
overflow_add-place c =
    let chunks = c.args.chunks.now in
    let i = c.loop-chunk.chunk-index in
    let one = c.chunk-item.result in
    omega (
      arith,
      c.loop-chunk.invariant.place,
      joined_long lines_in chunks i one c.loop-chunk-test.true,
      joined_few lines_in chunks (i + 1),
      ap (λ (k : Chunk Rule). length (lines_in k)) c.chunk-item.is,
      c.requires.room,
      c.len-place.ensures,
    )

pub loop-chunk-preserved : goal.loop-chunk-preserved
loop-chunk-preserved c =
    let made = c.args.counts.now.made in
    let next = c.args.next.now in
    let first = c.args.first in
    let chunks = c.args.chunks.now in
    let i = c.loop-chunk.chunk-index in
    let one = c.chunk-item.result in
    let old = c.args.places.now.items in
    let before = places_from made next first (plans_of (lines_of (take i chunks))) in
    let place = c.loop-chunk.invariant.place in
    record {
      places =
          c.in_ok-add_places_in.ensures
          ∙ ap (λ (ks : List ℕ). ks ++ places_from made next c.loop-chunk.place (plans_of (lines_in one))) c.loop-chunk.invariant.places
          ∙ append_assoc old before (places_from made next c.loop-chunk.place (plans_of (lines_in one)))
          ∙ ap (λ k. old ++ (before ++ places_from made next k (plans_of (lines_in one)))) place
          ∙ ap (λ (k : Chunk Rule). old ++ (before ++ places_from made next (first + length (lines_of (take i chunks))) (plans_of (lines_in k))))
          c.chunk-item.is
          ∙ ap (λ (ks : List ℕ). old ++ ks) (sym (places_in_more lines_in made next first chunks i one c.loop-chunk-test.true));
      place = omega (
        arith,
        place,
        joined_long lines_in chunks i one c.loop-chunk-test.true,
        ap (λ (k : Chunk Rule). length (lines_in k)) c.chunk-item.is,
        c.len-place.ensures,
      );
    }
