use Rattle.std.proofs.Common.{length, refl, arith}
use Rattle.std.proofs.lemmas.Option.{slice_get_read}
use Rattle.replay.proofs.Standing.{up_to_begins, up_to_more, up_to_ends}
use Rattle.replay.proofs.standings.play_all.Goals as goal

pub loop-i-init : goal.loop-i-init
loop-i-init c = up_to_begins c.args.tracks.now c.args.channels.now c.args.from c.args.to c.args.all.now.items c.requires.at

pub play_on-requires-clause-room : goal.play_on-requires-clause-room
play_on-requires-clause-room c =
    c.requires.room c.loop-i.i c.index-tracks-i.result (slice_get_read c.args.tracks.now (length c.args.tracks.now) c.loop-i.i c.index-tracks-i.result refl c.loop-i-test.true c.index-tracks-i.is)

pub play_on-requires-clause-at : goal.play_on-requires-clause-at
play_on-requires-clause-at c =
    c.loop-i.invariant.left c.loop-i.i c.index-tracks-i.result c.index_mut-standing.result.now (omega arith)
    (slice_get_read c.args.tracks.now (length c.args.tracks.now) c.loop-i.i c.index-tracks-i.result refl c.loop-i-test.true c.index-tracks-i.is)
    (slice_get_read c.loop-i.all.items (length c.loop-i.all.items) c.loop-i.i c.index_mut-standing.result.now refl (omega (arith, c.loop-i-test.true, c.loop-i.invariant.long)) c.index_mut-standing.ensures.value)

pub loop-i-preserved : goal.loop-i-preserved
loop-i-preserved c =
    up_to_more c.args.tracks.now c.args.channels.now c.args.from c.args.to c.loop-i.i c.loop-i.all.items c.index-tracks-i.result c.play_on.new.standing c.loop-i.invariant
    (omega (arith, c.loop-i-test.true, c.loop-i.invariant.long))
    (slice_get_read c.args.tracks.now (length c.args.tracks.now) c.loop-i.i c.index-tracks-i.result refl c.loop-i-test.true c.index-tracks-i.is)
    c.play_on.ensures

pub returns : goal.returns
returns c = up_to_ends c.args.tracks.now c.args.channels.now c.args.from c.args.to c.loop-i.i c.loop-i.all.items c.loop-i.invariant (omega (arith, c.loop-i-test.false))
