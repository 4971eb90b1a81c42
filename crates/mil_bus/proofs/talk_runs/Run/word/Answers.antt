use Rattle.std.proofs.Common.{cond, ap, ◌∙◌, arith}
use Rattle.mil_word.specs.Words.{command_in, command_wave, data_wave}
use Rattle.mil_terminal.proofs.Runs.{value_none}
use Rattle.mil_bus.proofs.talk_runs.Run.word.Goals as goal

pub returns-clause-data : goal.returns-clause-data
returns-clause-data c = λ none.
    ap command_in (c.wave_of.ensures ∙ ap (λ b. cond b (command_wave c.args.value) (data_wave c.args.value)) none) ∙ value_none c.args.value (omega arith)
