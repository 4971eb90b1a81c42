use Rattle.std.proofs.Common.{◌≡◌, true}
use Rattle.mil_terminal.specs.Host.{is_deaf}
use Rattle.mil_bus.proofs.Answering.{answer-deaf, answer-none}
use Rattle.mil_bus.proofs.quieting.pass.Goals as goal

pub returns-then-not-deaf-clause-silent : goal.returns-then-not-deaf-clause-silent
returns-then-not-deaf-clause-silent c = answer-none c.args.line c.args.terminal.now c.pass_quiet.ensures.silent

pub returns-else-not-deaf-clause-silent : goal.returns-else-not-deaf-clause-silent
returns-else-not-deaf-clause-silent c =
    let deaf : is_deaf c.args.line c.args.terminal.now.history ≡ true = cc in
    answer-deaf c.args.line c.args.terminal.now deaf
