use Rattle.std.proofs.Common.{◌≡◌, ◌<◌, length, add-one, arith}
use Rattle.std.proofs.KnownBytes.{Appends-trans}
use Rattle.bench_step.specs.Session.{job_text, state_text}
use Rattle.bench_step.proofs.Pairs.{Pair, pair_at, same_count, all_pairs}
use Rattle.bench_step.proofs.replies.print_state.Goals as goal

pub loop-index-preserved : goal.loop-index-preserved
loop-index-preserved g c =
    let s = c.args.replay.now.state in
    let same = same_count s.jobs s.parts s.found c.jobs-index-end.ensures.agrees in
    let inside : c.loop-index.index < length s.jobs = omega (arith, c.jobs-index-end.ensures.value, c.loop-index-test.true) in
    let pair = pair_at s.jobs s.parts c.loop-index.index same inside in
    rw (add-one, pair.more (λ (p : Pair). job_text c.args.detail s p.0 p.1))
    (Appends-trans (g.W.Write.contents c.args.out.now) (g.W.Write.contents c.loop-index.out) (g.W.Write.contents c.print_job.new.out) _ _ c.loop-index.invariant
    (c.in_ok-print_job.ensures pair.job pair.part pair.job_there pair.part_there))

pub returns : goal.returns
unfolding state_text
returns g c =
    let s = c.args.replay.now.state in
    let last : c.loop-index.index ≡ length s.jobs = omega (arith, c.jobs-index-end.ensures.value, c.loop-index-test.false) in
    rw (last, all_pairs s.jobs s.parts (same_count s.jobs s.parts s.found c.jobs-index-end.ensures.agrees)) at c.loop-index.invariant
