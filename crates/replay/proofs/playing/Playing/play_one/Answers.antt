use Rattle.std.proofs.Common.{◌+◌, length}
use Rattle.replay.proofs.Keeping.{own_due}
use Rattle.replay.proofs.PlayingKept.{plays_kept, plays_refused}
use Rattle.replay.proofs.playing.Playing.play_one.Goals as goal

pub keep-requires-clause-due : goal.keep-requires-clause-due
keep-requires-clause-due c =
    own_due c.args.channels.now c.args.job.now.channel (c.args.self.now.standing.heard + 1) (length c.args.stops.now.items) c.args.self.now.due c.requires.due

pub returns-in_ok-keep-in-Kept-clause-on : goal.returns-in_ok-keep-in-Kept-clause-on
returns-in_ok-keep-in-Kept-clause-on c = λ yes found n first so_far.
    plays_kept found c.args.job.now c.args.part.now c.args.channels.now n c.args.self.now.standing c.play_next.new.machine c.mark.result c.args.heard.now c.play_next.new.heard
    c.args.self.now.marks.items c.push.new.self.items c.args.self.now.due c.keep.new.self first c.args.stops.now.items c.keep.new.stops.items
    so_far c.in-Kept.ensures c.mark.ensures.number c.mark.ensures.last c.in_ok-push-in-Kept.ensures.items c.in_ok-keep-in-Kept.ensures.count c.in_ok-keep-in-Kept.ensures.due c.in_ok-keep-in-Kept.ensures.kept

pub returns-in-Refused-clause-on : goal.returns-in-Refused-clause-on
returns-in-Refused-clause-on c = λ yes found n first so_far.
    plays_refused found c.args.job.now c.args.part.now c.args.channels.now n c.args.self.now.standing c.play_next.new.machine c.args.heard.now c.play_next.new.heard
    c.args.self.now.marks.items c.args.self.now.due first c.args.stops.now.items so_far c.in-Refused.ensures
