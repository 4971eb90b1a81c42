use Rattle.std.proofs.Common.{map, sym, ◌∙◌}
use Rattle.mil_word.specs.Words.{data_wave}
use Rattle.mil_terminal.proofs.Runs.{run_none, run_silent, run_heard, values_none}
use Rattle.mil_terminal.proofs.registers.Registers.hear_values.Goals as goal

pub returns-then-same_line-clause-stands : goal.returns-then-same_line-clause-stands
returns-then-same_line-clause-stands c = λ h is.
    rw c.take_values.ensures
    (run_heard c.args.self.now c.args.self.now.window c.in-Some.pending c.args.line c.args.gap (map data_wave c.args.values.now) h c.in-Some.is (values_none c.args.values.now c.are_small.ensures) (sym c.same_line.ensures ∙ c.if-same_line.true) is)

pub returns-else-same_line-clause-stands : goal.returns-else-same_line-clause-stands
returns-else-same_line-clause-stands c = λ h is.
    run_silent c.args.self.now c.args.self.now.window c.in-Some.pending c.args.line c.args.gap (map data_wave c.args.values.now) h c.in-Some.is (values_none c.args.values.now c.are_small.ensures) (sym c.same_line.ensures ∙ c.if-same_line.false) is

pub returns-in_default-clause-stands : goal.returns-in_default-clause-stands
returns-in_default-clause-stands c = λ h is. run_none c.args.self.now c.args.line c.args.gap (map data_wave c.args.values.now) h c.in_default.is (values_none c.args.values.now c.are_small.ensures) is
