use Rattle.replay.specs.Keeping.{IsPlayedTo}
use Rattle.replay.proofs.playing.Playing.play_all.Given as goal

abbrev pub invariant-loop-played : goal.invariant-loop-played
invariant-loop-played l = IsPlayedTo l.index l.job l.part l.channels l.played l.self l.heard l.fn.stops.items l.stops.items
