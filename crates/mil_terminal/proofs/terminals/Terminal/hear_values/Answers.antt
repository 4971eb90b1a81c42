use Rattle.std.proofs.Common.{◌≡◌, true, false, map, sym, ◌∙◌}
use Rattle.mil_word.specs.Words.{data_wave}
use Rattle.mil_terminal.specs.Host.{is_off}
use Rattle.mil_terminal.proofs.Passing.{words_off, words_on}
use Rattle.mil_terminal.proofs.terminals.Terminal.hear_values.Goals as goal

pub returns-then-is_off : goal.returns-then-is_off
returns-then-is_off c =
    let off : is_off c.self.inside.past ≡ true = sym (c.is_off.ensures c.self.inside.past c.self.invariant) ∙ c.if-is_off.true in
    rw (← c.self.view_is) (sym (words_off (record { own = c.self.inside.registers.own; history = c.self.inside.past }) c.args.line c.args.gap (map data_wave c.args.values.now) off))

pub returns : goal.returns
returns c =
    let on : is_off c.self.inside.past ≡ false = sym (c.is_off.ensures c.self.inside.past c.self.invariant) ∙ c.if-is_off.false in
    rw (← c.self.view_is, c.hear_values.ensures.own, c.past_of_values.ensures) (sym (words_on (record { own = c.self.inside.registers.own; history = c.self.inside.past }) c.args.line c.args.gap (map data_wave c.args.values.now) on))
