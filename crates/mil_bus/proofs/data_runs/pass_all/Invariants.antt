use Rattle.std.proofs.Common.{map, ◌≡◌, drop}
use Rattle.mil_word.specs.Words.{data_wave}
use Rattle.mil_bus.specs.Exchange.{contiguous_run}
use Rattle.mil_bus.specs.DataRuns.{hearing_all, run_words}
use Rattle.mil_bus.specs.Index.{IsClosed}
use Rattle.mil_bus.proofs.data_runs.pass_all.Given as goal

abbrev pub invariant-loop-value : goal.invariant-loop-value
invariant-loop-value l = record {
  left : hearing_all l.line (contiguous_run l.run.number l.run.source l.gap (map data_wave (drop l.value-index l.values))) l.terminal ≡ hearing_all l.line (run_words l.run (map data_wave l.values)) l.fn.terminal;
  closed : IsClosed l.terminal;
}
