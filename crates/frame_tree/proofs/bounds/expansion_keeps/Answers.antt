use Rattle.std.proofs.Common.{[]}
use Rattle.frame_tree.proofs.Expansions.{messages_kept, depth_kept, plain_kept}
use Rattle.frame_tree.proofs.bounds.expansion_keeps.Goals as goal

pub returns-clause-plain : goal.returns-clause-plain
returns-clause-plain c t = plain_kept t [] tt

pub returns-clause-messages : goal.returns-clause-messages
returns-clause-messages c t = messages_kept t [] [] [] tt

pub returns-clause-depth : goal.returns-clause-depth
returns-clause-depth c t = depth_kept t [] [] [] tt
