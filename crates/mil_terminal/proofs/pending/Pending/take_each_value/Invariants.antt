use Rattle.std.proofs.Common.{◌≡◌, drop, map}
use Rattle.mil_word.specs.Words.{data_wave}
use Rattle.mil_terminal.specs.Phases.{after_run}
use Rattle.mil_terminal.proofs.pending.Pending.take_each_value.Given as goal

abbrev pub invariant-loop-value : goal.invariant-loop-value
invariant-loop-value l = after_run l.fn.own l.self l.gap (map data_wave (drop l.value-index l.values)) ≡ after_run l.fn.own l.fn.self l.fn.gap (map data_wave l.values)
