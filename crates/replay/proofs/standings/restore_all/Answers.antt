use Rattle.std.proofs.Common.{length, refl, arith}
use Rattle.std.proofs.lemmas.Option.{slice_get_read}
use Rattle.replay.proofs.Standing.{alike_at, restored_more, restored_ends}
use Rattle.replay.proofs.standings.restore_all.Goals as goal

pub restore-requires : goal.restore-requires
restore-requires c =
    alike_at c.args.tracks.now c.args.channels.now c.args.place c.args.kept.now c.requires.kept c.loop-i.i c.loop-i.all.items c.index_mut-standing.result.now c.index-kept-i.result
    c.loop-i.invariant.of c.loop-i-test.true
    (slice_get_read c.loop-i.all.items (length c.loop-i.all.items) c.loop-i.i c.index_mut-standing.result.now refl (omega (arith, c.loop-i-test.true, c.requires.kept.long, c.loop-i.invariant.of.long)) c.index_mut-standing.ensures.value)
    (slice_get_read c.args.kept.now (length c.args.kept.now) c.loop-i.i c.index-kept-i.result refl c.loop-i-test.true c.index-kept-i.is)

pub loop-i-preserved : goal.loop-i-preserved
loop-i-preserved c =
    restored_more c.args.tracks.now c.args.channels.now c.args.place c.args.kept.now c.requires.kept c.loop-i.i c.loop-i.all.items c.index-kept-i.result c.restore.new.self
    c.loop-i.invariant (omega (arith, c.loop-i-test.true, c.requires.kept.long, c.loop-i.invariant.of.long))
    (slice_get_read c.args.kept.now (length c.args.kept.now) c.loop-i.i c.index-kept-i.result refl c.loop-i-test.true c.index-kept-i.is) c.in_ok-restore.ensures.restored

pub returns-clause-at : goal.returns-clause-at
returns-clause-at c =
    restored_ends c.args.tracks.now c.args.channels.now c.args.place c.args.kept.now c.requires.kept c.loop-i.i c.loop-i.all.items c.loop-i.invariant (omega (arith, c.loop-i-test.false))
