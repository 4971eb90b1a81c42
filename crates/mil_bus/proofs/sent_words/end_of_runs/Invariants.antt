use Rattle.std.proofs.Common.{◌≡◌, ◌≤◌, ◌+◌, ◌*◌, ◌^◌, ◌++◌, List, drop, length}
use Rattle.mil_bus.specs.declared.talks.Sent.{Sent}
use Rattle.mil_bus.specs.Times.{end_from}
use Rattle.mil_bus.specs.Wholes.{all_words, words_in}
use Rattle.mil_bus.proofs.sent_words.end_of_runs.Given as goal

abbrev pub invariant-loop-i : goal.invariant-loop-i
invariant-loop-i l = record {
  ends : (more : List Sent) → end_from l.from l.tick (all_words (drop l.i l.runs) (drop l.from l.values) ++ more) ≡ end_from 0 l.start (all_words l.runs l.values ++ more);
  left : l.from + words_in (drop l.i l.runs) ≡ length l.values;
  small : l.tick ≤ l.start + l.from * 2 ^ 17;
  after : l.start ≤ l.tick;
}
