use Rattle.std.proofs.Common.{◌≡◌, ◌≤◌, ◌+◌, ◌*◌, ◌^◌, drop}
use Rattle.mil_bus.specs.Times.{end_from}
use Rattle.mil_bus.proofs.sent_words.end_of_each.Given as goal

abbrev pub invariant-loop-i : goal.invariant-loop-i
invariant-loop-i l = record {
  ends : end_from (l.from + l.i) l.tick (drop l.i l.sent) ≡ end_from l.from l.start l.sent;
  small : l.tick ≤ l.start + l.i * 2 ^ 17;
  after : l.start ≤ l.tick;
}
