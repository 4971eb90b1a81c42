use Rattle.std.proofs.Common.{◌≡◌, ◌+◌, take, drop, length}
use Rattle.mil_bus.specs.Counts.{counts_of}
use Rattle.mil_bus.specs.Wholes.{all_words, words_in}
use Rattle.mil_bus.proofs.counted_runs.counted_runs.Given as goal

abbrev pub invariant-loop-i : goal.invariant-loop-i
invariant-loop-i l = record {
  seen : l.seen ≡ counts_of l.commands l.due (take l.from (all_words l.runs l.values));
  rest : drop l.from (all_words l.runs l.values) ≡ all_words (drop l.i l.runs) (drop l.from l.values);
  left : l.from + words_in (drop l.i l.runs) ≡ length l.values;
}
