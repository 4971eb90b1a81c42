use Rattle.frame_grammar.proofs.Messages.{sends_derived}
use Rattle.frame_grammar.proofs.laws.sends_are_derived.Goals as goal

pub returns : goal.returns
returns c = sends_derived
