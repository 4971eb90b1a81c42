use Rattle.std.proofs.Common.{◌≡◌, ◌==◌, map, take, length, true, sym, ap, ◌∙◌, arith}
use Rattle.std.proofs.lemmas.Bool.Decides.{nat_tests}
use Rattle.mil_word.specs.Words.{data_wave}
use Rattle.mil_bus.specs.Exchange.{all_hearing}
use Rattle.mil_bus.specs.DataRuns.{hearing_all, run_words, run_from}
use Rattle.mil_bus.specs.Wholes.{run_waves}
use Rattle.mil_bus.specs.declared.talk_runs.Run.{Run}
use Rattle.mil_bus.proofs.DataRuns.{run-parts, run-commands}
use Rattle.mil_bus.proofs.terminals.Terminals.hear_whole.Goals as goal

pub returns-then-not-is_empty : goal.returns-then-not-is_empty
returns-then-not-is_empty c =
    let cs = c.parts.result.0.now in
    let vs = c.parts.result.1.now in
    c.hear_data.ensures
    ∙ ap (λ (r : Run). map (hearing_all c.args.line (run_words r (map data_wave vs))) c.hear_commands.new.self) c.from.ensures
    ∙ ap (map (hearing_all c.args.line (run_words (run_from (length cs) c.args.run.now) (map data_wave vs)))) c.hear_commands.ensures
    ∙ run-parts c.args.line c.args.run.now cs vs c.args.self.now
    ∙ ap (λ xs. all_hearing c.args.line (run_words c.args.run.now (run_waves xs vs)) c.args.self.now) c.parts.ensures.commands
    ∙ ap (λ xs. all_hearing c.args.line (run_words c.args.run.now (run_waves (take c.args.values.now.commands c.args.values.now.words.items) xs)) c.args.self.now) c.parts.ensures.«data»

pub returns-else-not-is_empty : goal.returns-else-not-is_empty
returns-else-not-is_empty c =
    let cs = c.parts.result.0.now in
    let vs = c.parts.result.1.now in
    let is : (length vs == 0) ≡ true = sym c.is_empty.ensures ∙ c.if-not-is_empty.false in
    let none : length vs ≡ 0 = grind (arith, nat_tests) in
    c.hear_commands.ensures ∙ run-commands c.args.line c.args.run.now cs vs c.args.self.now none
    ∙ ap (λ xs. all_hearing c.args.line (run_words c.args.run.now (run_waves xs vs)) c.args.self.now) c.parts.ensures.commands
    ∙ ap (λ xs. all_hearing c.args.line (run_words c.args.run.now (run_waves (take c.args.values.now.commands c.args.values.now.words.items) xs)) c.args.self.now) c.parts.ensures.«data»
