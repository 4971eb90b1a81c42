use Rattle.std.proofs.Common.{◌≡◌, drop, map}
use Rattle.mil_word.specs.Words.{command_wave}
use Rattle.mil_bus.specs.Exchange.{all_hearing, contiguous_run}
use Rattle.mil_bus.specs.DataRuns.{run_words}
use Rattle.mil_bus.proofs.terminals.Terminals.hear_commands.Given as goal

abbrev pub invariant-loop-value : goal.invariant-loop-value
invariant-loop-value l = all_hearing l.line (contiguous_run l.run.number l.run.source l.gap (map command_wave (drop l.value-index l.values))) l.self ≡ all_hearing l.line (run_words l.run (map command_wave l.values)) l.fn.self
