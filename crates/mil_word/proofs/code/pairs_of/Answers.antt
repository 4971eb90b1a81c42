use Rattle.std.proofs.Common.{refl, arith, ◌∙◌}
use Rattle.std.specs.List.{flat_map}
use Rattle.mil_word.specs.Wave.{digits, number, pair}
use Rattle.mil_word.specs.declared.tables.TheConstants.{PAIRS}
use Rattle.mil_word.proofs.Parts.{all_below, from_table}
use Rattle.mil_word.proofs.code.pairs_of.Goals as goal

pub returns-clause-halves : goal.returns-clause-halves
unfolding all_below digits number
returns-clause-halves c = c.from.ensures ∙ from_table PAIRS (λ b. number (flat_map pair (digits 8 b))) 256 c.args.byte refl (omega arith)
