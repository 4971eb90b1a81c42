use Rattle.std.proofs.Common.{◌∙◌}
use Rattle.replay.proofs.States.{marked}
use Rattle.replay.proofs.tracks.Track.number.Goals as goal

pub returns : goal.returns
returns c =
    let mark = marked c.self.inside.job.value c.self.inside.part.value c.self.inside.channel c.self.inside.marks.items c.args.self.now c.args.heard c.index.result.now
    c.self.invariant c.self.view_is c.requires c.index.ensures in
    mark.number_is ∙ mark.there.number_is
