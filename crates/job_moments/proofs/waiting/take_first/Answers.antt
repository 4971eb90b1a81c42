use Rattle.std.proofs.Common.{◌≡◌, ◌<◌, length, get_or, refl, sym, subst, ◌∙◌, arith}
use Rattle.std.proofs.lemmas.List.{get_or_default}
use Rattle.job_moments.specs.Awaiting.{IsStill, KnowsChunk, Picks}
use Rattle.job_moments.specs.Chunks.{lines_in}
use Rattle.job_moments.proofs.Joined.{all_joined, same_joined}
use Rattle.job_moments.proofs.Lists.{set_done, set_rest, set_all}
use Rattle.job_moments.proofs.Taking.{IsPassed, passed, picks_set}
use Rattle.job_moments.proofs.waiting.take_first.Goals as goal

pub is_quiet_chunk-requires : goal.is_quiet_chunk-requires
is_quiet_chunk-requires g c =
    let i = c.loop-chunk.chunk-index in
    subst (KnowsChunk c.args.counts.now) (sym (c.loop-chunk.invariant.rest i c.chunk-item.result (omega arith)))
    (c.requires.known i c.chunk-item.result (omega (arith, c.loop-chunk-test.true, c.loop-chunk.auto.chunks)))

pub loop-chunk-preserved-then-is_quiet_chunk : goal.loop-chunk-preserved-then-is_quiet_chunk
loop-chunk-preserved-then-is_quiet_chunk g c =
    let i = c.loop-chunk.chunk-index in
    let old = c.args.chunks.now in
    let now = c.loop-chunk.chunks in
    let made = c.args.counts.now.made in
    let next = c.args.next.now in
    let new = get_or now i c.chunk-item.result in
    let long : length now ≡ length old = omega (arith, c.loop-chunk.auto.chunks) in
    let there : i < length old = omega (arith, c.loop-chunk-test.true, long) in
    let same : (d : _) → new ≡ get_or old i d =
    λ d. get_or_default now i c.chunk-item.result d (omega (arith, long, there)) ∙ c.loop-chunk.invariant.rest i d (omega arith) in
    record {
      done = set_done (IsPassed lines_in made next) old now i new long there c.loop-chunk.invariant.done
          (λ d. subst (λ o. IsPassed lines_in made next o new) (same d) (record { lines = refl; still = c.is_quiet_chunk.ensures c.if-is_quiet_chunk.true }));
      known = set_done (λ o n. KnowsChunk c.args.counts.now n) old now i new long there c.loop-chunk.invariant.known
          (λ d. subst (KnowsChunk c.args.counts.now) (sym (same c.chunk-item.result)) (c.requires.known i c.chunk-item.result there));
      rest = set_rest old now i new c.loop-chunk.invariant.rest;
    }

pub take_one-payload-requires-clause-known : goal.take_one-payload-requires-clause-known
take_one-payload-requires-clause-known g c =
    let i = c.loop-chunk.chunk-index in
    subst (KnowsChunk c.args.counts.now) (sym (c.loop-chunk.invariant.rest i c.chunk-item.result (omega arith)))
    (c.requires.known i c.chunk-item.result (omega (arith, c.loop-chunk-test.true, c.loop-chunk.auto.chunks)))

pub loop-chunk-preserved : goal.loop-chunk-preserved
loop-chunk-preserved g c =
    let i = c.loop-chunk.chunk-index in
    let old = c.args.chunks.now in
    let now = c.loop-chunk.chunks in
    let new = c.take_one-payload.new.chunk in
    let made = c.args.counts.now.made in
    let next = c.args.next.now in
    let long : length now ≡ length old = omega (arith, c.loop-chunk.auto.chunks) in
    let there : i < length old = omega (arith, c.loop-chunk-test.true, long) in
    record {
      done = set_done (IsPassed lines_in made next) old now i new long there c.loop-chunk.invariant.done
          (λ d. passed lines_in made next (get_or old i d) new c.take_one-payload.result (sym c.is_some.ensures ∙ c.if-is_some.false)
          (subst (λ o. Picks made next (lines_in o) (lines_in new) c.take_one-payload.result)
          (get_or_default now i c.chunk-item.result d (omega (arith, long, there)) ∙ c.loop-chunk.invariant.rest i d (omega arith))
          c.take_one-payload.ensures.taken));
      known = set_done (λ o n. KnowsChunk c.args.counts.now n) old now i new long there c.loop-chunk.invariant.known
          (λ d. c.take_one-payload.ensures.known);
      rest = set_rest old now i new c.loop-chunk.invariant.rest;
    }

pub returns-then-is_some-clause-taken : goal.returns-then-is_some-clause-taken
returns-then-is_some-clause-taken g c =
    let long : length c.loop-chunk.chunks ≡ length c.args.chunks.now = omega (arith, c.loop-chunk.auto.chunks) in
    picks_set lines_in c.args.counts.now.made c.args.next.now c.loop-chunk.chunk-index c.args.chunks.now c.loop-chunk.chunks c.chunk-item.result
    c.take_one-payload.new.chunk c.take_one-payload.result (sym c.is_some.ensures ∙ c.if-is_some.true) long
    (omega (arith, c.loop-chunk-test.true, long)) c.loop-chunk.invariant.done c.loop-chunk.invariant.rest c.take_one-payload.ensures.taken

pub returns-then-is_some-clause-known : goal.returns-then-is_some-clause-known
returns-then-is_some-clause-known g c =
    let long : length c.loop-chunk.chunks ≡ length c.args.chunks.now = omega (arith, c.loop-chunk.auto.chunks) in
    set_all (KnowsChunk c.args.counts.now) c.args.chunks.now c.loop-chunk.chunks c.loop-chunk.chunk-index c.take_one-payload.new.chunk long
    (omega (arith, c.loop-chunk-test.true, long)) c.loop-chunk.invariant.known c.take_one-payload.ensures.known c.loop-chunk.invariant.rest c.requires.known

pub returns-clause-taken : goal.returns-clause-taken
returns-clause-taken g c =
    let old = c.args.chunks.now in
    let still = IsStill c.args.counts.now.made c.args.next.now in (
      all_joined lines_in still old (λ k d lt. (c.loop-chunk.invariant.done k d (omega (arith, lt, c.loop-chunk-test.false, c.loop-chunk.auto.chunks))).still),
      same_joined lines_in old c.loop-chunk.chunks (omega (arith, c.loop-chunk.auto.chunks))
          (λ k d lt. (c.loop-chunk.invariant.done k d (omega (arith, lt, c.loop-chunk-test.false, c.loop-chunk.auto.chunks))).lines),
    )

pub returns-clause-known : goal.returns-clause-known
returns-clause-known g c = λ k d lt. c.loop-chunk.invariant.known k d (omega (arith, lt, c.loop-chunk-test.false, c.loop-chunk.auto.chunks))
