use Rattle.frame_grammar.proofs.Scripts.{scripts_derived}
use Rattle.frame_grammar.proofs.laws.scripts_are_derived.Goals as goal

pub returns : goal.returns
returns c = scripts_derived
