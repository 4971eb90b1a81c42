use Rattle.std.proofs.Common.{sym, ◌∙◌}
use Rattle.mil_terminal.proofs.Passing.{opens-low}
use Rattle.mil_terminal.proofs.terminals.Terminal.hear.Goals as goal

pub pass-requires-clause-other : goal.pass-requires-clause-other
pass-requires-clause-other c = opens-low c.args.self.now.own c.args.line c.args.wave c.args.gap c.args.self.now.history (sym c.begins_high.ensures ∙ c.if-begins_high.false)
