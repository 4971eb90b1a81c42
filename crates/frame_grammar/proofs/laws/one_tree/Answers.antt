use Rattle.frame_grammar.proofs.Scripts.{one_tree}
use Rattle.frame_grammar.proofs.laws.one_tree.Goals as goal

pub returns : goal.returns
returns c = one_tree
