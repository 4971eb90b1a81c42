use Rattle.replay.proofs.States.{after, sound_pair}
use Rattle.replay.proofs.tracks.Track.machine.Goals as goal

pub returns : goal.returns
returns c number there =
    after c.job_runs.ensures.bus c.job_runs.ensures.made c.args.self.now.job c.args.self.now.part number c.args.standing.now.machine
    (sound_pair c.self.inside.job.value c.self.inside.part.value c.args.self.now c.self.invariant.sound c.self.view_is) there
