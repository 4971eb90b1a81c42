use Rattle.std.proofs.Common.{◌≡◌, ◌+◌, take}
use Rattle.mil_bus.specs.Counts.{counts_of}
use Rattle.mil_bus.specs.Wholes.{all_words}
use Rattle.mil_bus.proofs.counted_runs.note_run.Given as goal

abbrev pub invariant-loop-i : goal.invariant-loop-i
invariant-loop-i l = l.seen ≡ counts_of l.commands l.due (take (l.from + l.i) (all_words l.runs l.values))
