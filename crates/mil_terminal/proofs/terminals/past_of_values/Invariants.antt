use Rattle.std.proofs.Common.{◌≡◌, drop, map}
use Rattle.mil_word.specs.Words.{data_wave}
use Rattle.mil_terminal.specs.Runs.{heard, met}
use Rattle.mil_terminal.proofs.terminals.past_of_values.Given as goal

abbrev pub invariant-loop-value : goal.invariant-loop-value
invariant-loop-value l = met (heard l.line l.gap (map data_wave (drop l.value-index l.values))) l.events ≡ met (heard l.line l.fn.gap (map data_wave l.values)) l.fn.past
