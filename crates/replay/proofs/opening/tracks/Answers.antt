use Rattle.std.proofs.Common.{ℕ, ◌<◌, length, sym, ap, ◌∙◌, subst, arith}
use Rattle.std.proofs.lemmas.Result.{err_from_is_err_and}
use Rattle.replay.specs.Tracks.{Pair}
use Rattle.replay.specs.Keeping.{AreSpaced}
use Rattle.replay.proofs.Channels.{fails_in, agree_next, jobs_next, parts_next}
use Rattle.replay.proofs.Keeping.{adds_more}
use Rattle.replay.proofs.opening.tracks.Goals as goal

pub play-requires-clause-spaced : goal.play-requires-clause-spaced
play-requires-clause-spaced c = subst (λ (n : ℕ). AreSpaced (length c.args.channels.now) n) (sym c.loop-i.invariant.count) c.requires.spaced

pub returns-in_err-play-clause-fault : goal.returns-in_err-play-clause-fault
returns-in_err-play-clause-fault c =
    let p = err_from_is_err_and c.from_residual-in_err-play.result c.from_residual-in_err-play.ensures.1 in
    let less : c.loop-i.i < length c.args.parts.now = omega (arith, c.loop-i-test.true, c.requires.parts) in
    rw (p.1, p.2)
    (fails_in c.args.jobs.now c.args.parts.now c.args.index.now c.loop-i.i c.index-jobs-i.result c.index-parts-i.result c.in_err-play.field-0.0
    c.loop-i.invariant.agree c.loop-i-test.true less c.index-jobs-i.is c.index-parts-i.is c.in_err-play.ensures.fault)

pub loop-i-preserved : goal.loop-i-preserved
loop-i-preserved c =
    let less : c.loop-i.i < length c.args.parts.now = omega (arith, c.loop-i-test.true, c.requires.parts) in
    record {
      jobs =
          jobs_next c.args.jobs.now c.loop-i.i c.index-jobs-i.result c.loop-i.tracks.items c.push.new.self.items c.in_ok-play.field-0 c.loop-i.invariant.jobs c.loop-i-test.true c.index-jobs-i.is
          c.in_ok-push.ensures.items (ap (λ (q : Pair). q.job) c.in_ok-play.ensures.track);
      parts =
          parts_next c.args.parts.now c.loop-i.i c.index-parts-i.result c.loop-i.tracks.items c.push.new.self.items c.in_ok-play.field-0 c.loop-i.invariant.parts less c.index-parts-i.is
          c.in_ok-push.ensures.items (ap (λ (q : Pair). q.part) c.in_ok-play.ensures.track);
      agree =
          agree_next c.args.jobs.now c.args.parts.now c.args.index.now c.loop-i.i c.index-jobs-i.result c.index-parts-i.result c.loop-i.invariant.agree c.index-jobs-i.is c.index-parts-i.is
          c.in_ok-play.ensures.agrees;
      count = c.in_ok-play.ensures.count ∙ c.loop-i.invariant.count;
      states =
          adds_more c.args.channels.now c.loop-i.tracks.items c.push.new.self.items (record { job = c.index-jobs-i.result; part = c.index-parts-i.result }) c.in_ok-play.field-0 c.loop-i.stops.items c.play.new.stops.items
          c.in_ok-play.ensures.states c.loop-i.invariant.states c.in_ok-push.ensures.items c.in_ok-play.ensures.track;
    }
