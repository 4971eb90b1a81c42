use Rattle.std.proofs.Common.{◌∙◌, map, ap}
use Rattle.replay.specs.Standings.{saved_of}
use Rattle.replay.proofs.Standing.{kept_there}
use Rattle.replay.proofs.timeline.Timeline.saved.Goals as goal

pub returns-clause-stop : goal.returns-clause-stop
returns-clause-stop c =
    kept_there c.args.self.now.tracks.items c.args.self.now.channels.items c.args.place c.args.self.now.live.items c.in_ok-states.states.items c.requires.live
    (c.in_ok-states.ensures ∙ ap (map saved_of) c.deref.ensures.value)
