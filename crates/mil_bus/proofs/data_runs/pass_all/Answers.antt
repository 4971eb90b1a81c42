use Rattle.std.proofs.Common.{refl}
use Rattle.mil_bus.proofs.DataRuns.{opens-none}
use Rattle.mil_bus.proofs.data_runs.pass_all.Goals as goal

pub pass-requires-clause-other : goal.pass-requires-clause-other
pass-requires-clause-other c = opens-none c.loop-value.terminal.own c.args.line c.word-word.result.wave c.word-word.result.gap c.loop-value.terminal.history (c.word-word.ensures.data refl)
