use Rattle.std.proofs.Common.{◌≡◌, ◌<◌, length, sym, ap, subst, ◌∙◌, arith}
use Rattle.std.proofs.lemmas.List.{get_or_default}
use Rattle.job_moments.specs.Chunks.{lines_in}
use Rattle.job_moments.specs.Rules.{KnowsChunk}
use Rattle.job_moments.proofs.Joined.{same_joined}
use Rattle.job_moments.proofs.Lists.{set_done, set_rest}
use Rattle.job_moments.proofs.planning.learn_all.Goals as goal

pub learn-requires-clause-known : goal.learn-requires-clause-known
learn-requires-clause-known c =
    let i = c.loop-chunk.chunk-index in
    subst (KnowsChunk c.args.counts.now) (sym (c.loop-chunk.invariant.rest i c.chunk-item.result (omega arith)))
    (c.requires.known i c.chunk-item.result (omega (arith, c.loop-chunk-test.true, c.loop-chunk.auto.chunks)))

pub loop-chunk-preserved : goal.loop-chunk-preserved
loop-chunk-preserved c =
    let i = c.loop-chunk.chunk-index in
    let old = c.args.chunks.now in
    let now = c.loop-chunk.chunks in
    let long : length now ≡ length old = omega (arith, c.loop-chunk.auto.chunks) in
    let there : i < length old = omega (arith, c.loop-chunk-test.true, long) in
    record {
      done = set_done (λ o n. lines_in n ≡ lines_in o) old now i c.learn.new.chunk long there c.loop-chunk.invariant.done
          (λ d. c.learn.ensures.lines ∙ ap lines_in (get_or_default now i c.chunk-item.result d (omega (arith, long, there)))
          ∙ ap lines_in (c.loop-chunk.invariant.rest i d (omega arith)));
      known = set_done (λ o n. KnowsChunk c.args.counts.now n) old now i c.learn.new.chunk long there c.loop-chunk.invariant.known
          (λ d. c.learn.ensures.known);
      rest = set_rest old now i c.learn.new.chunk c.loop-chunk.invariant.rest;
    }

pub returns-clause-lines : goal.returns-clause-lines
returns-clause-lines c = same_joined lines_in _ _ (omega (arith, c.loop-chunk.auto.chunks))
    (λ k d lt. c.loop-chunk.invariant.done k d (omega (arith, lt, c.loop-chunk-test.false, c.loop-chunk.auto.chunks)))
