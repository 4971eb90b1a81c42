use Rattle.std.proofs.Common.{length}
use Rattle.frame_tree.proofs.names.+are_word_bytes.Given as goal

abbrev pub decreases-are_word_bytes : goal.decreases-are_word_bytes
decreases-are_word_bytes l = length l.bytes.now
