use Rattle.std.proofs.Common.{◌≡◌}
use Rattle.std.specs.Option.{IfSome}
use Rattle.replay.specs.Standings.{IsAmong, AreAmong}
use Rattle.replay.proofs.timeline.renew.Given as goal

abbrev pub invariant-loop-turn : goal.invariant-loop-turn
invariant-loop-turn l = record {
  stops : AreAmong l.initial.recent.items l.recent.items × IfSome l.found (IsAmong l.initial.recent.items);
  capacity : l.recent.capacity ≡ 32;
  place : IfSome l.found (λ stop. stop.place ≡ l.place);
}
