use Rattle.replay.proofs.States.{last_of}
use Rattle.replay.proofs.tracks.Track.outcome.Goals as goal

pub returns : goal.returns
returns c =
    last_of c.self.inside.job.value c.self.inside.part.value c.self.inside.channel c.self.inside.marks.items c.args.self.now c.args.heard c.index.result.now
    c.self.invariant c.self.view_is c.requires c.index.ensures c.job_runs.ensures.bus c.job_runs.ensures.made
