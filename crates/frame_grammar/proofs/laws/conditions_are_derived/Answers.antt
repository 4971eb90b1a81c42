use Rattle.frame_grammar.proofs.Conditions.{conditions_derived}
use Rattle.frame_grammar.proofs.laws.conditions_are_derived.Goals as goal

pub returns : goal.returns
returns c = conditions_derived
