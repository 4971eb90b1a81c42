use Rattle.std.proofs.Common.{◌≡◌, length}
use Rattle.replay.specs.Standings.{AreFirst}
use Rattle.replay.proofs.standings.begin_all.Given as goal

abbrev pub invariant-loop-i : goal.invariant-loop-i
invariant-loop-i l = record {
  long : length l.all.items ≡ l.i;
  each : AreFirst l.jobs l.parts l.all.items;
}
