use Rattle.replay.specs.Tracks.{IsThere}
use Rattle.replay.proofs.tracks.Track.play_to.Given as goal

abbrev pub invariant-loop-number : goal.invariant-loop-number
invariant-loop-number l = IsThere l.self.job l.self.part l._number l.machine
