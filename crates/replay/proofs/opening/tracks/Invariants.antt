use Rattle.std.proofs.Common.{◌≡◌, length, take}
use Rattle.replay.specs.Tracks.{jobs_in, parts_in}
use Rattle.replay.specs.Opening.{AgreeBefore}
use Rattle.replay.specs.Standings.{AreCheckpoints}
use Rattle.replay.proofs.opening.tracks.Given as goal

abbrev pub invariant-loop-i : goal.invariant-loop-i
invariant-loop-i l = record {
  jobs : jobs_in l.tracks.items ≡ take l.i l.jobs;
  parts : parts_in l.tracks.items ≡ take l.i l.parts;
  agree : AgreeBefore l.index l.jobs l.parts l.i;
  count : length l.stops.items ≡ length l.initial.stops.items;
  states : AreCheckpoints l.tracks.items l.channels l.stops.items;
}
