use Rattle.std.proofs.Common.{refl, arith, ◌∙◌}
use Rattle.mil_word.specs.Wave.{digits, number, first_halves}
use Rattle.mil_word.specs.declared.tables.TheConstants.{FIRSTS}
use Rattle.mil_word.proofs.Parts.{all_below, from_table, table_below}
use Rattle.mil_word.proofs.code.firsts_of.Goals as goal

pub returns-clause-firsts : goal.returns-clause-firsts
unfolding all_below digits number
returns-clause-firsts c = c.from.ensures ∙ from_table FIRSTS (λ b. number (first_halves (digits 8 b))) 256 c.args.halves refl (omega arith)

pub returns-clause-small : goal.returns-clause-small
unfolding all_below
returns-clause-small c = omega (arith, c.from.ensures, table_below FIRSTS 16 256 c.args.halves refl (omega arith))
