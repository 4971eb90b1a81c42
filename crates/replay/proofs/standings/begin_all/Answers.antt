use Rattle.std.proofs.Common.{◌<◌, length, refl, arith}
use Rattle.std.proofs.lemmas.Option.{slice_get_read}
use Rattle.replay.proofs.Standing.{first_more}
use Rattle.replay.proofs.standings.begin_all.Goals as goal

pub loop-i-preserved : goal.loop-i-preserved
loop-i-preserved c =
    let less : c.loop-i.i < length c.args.parts.now = omega (arith, c.loop-i-test.true, c.requires) in
    record {
      long = omega (arith, c.loop-i.invariant.long, c.in_ok-push.ensures.len);
      each = rw (c.in_ok-push.ensures.items)
          (first_more c.args.jobs.now c.args.parts.now c.loop-i.all.items c.index-jobs-i.result c.index-parts-i.result c.in_ok-begin.field-0 c.loop-i.i c.loop-i.invariant.each c.loop-i.invariant.long
          (slice_get_read c.args.jobs.now (length c.args.jobs.now) c.loop-i.i c.index-jobs-i.result refl c.loop-i-test.true c.index-jobs-i.is)
          (slice_get_read c.args.parts.now (length c.args.parts.now) c.loop-i.i c.index-parts-i.result refl less c.index-parts-i.is)
          c.in_ok-begin.ensures.heard c.in_ok-begin.ensures.there);
    }
