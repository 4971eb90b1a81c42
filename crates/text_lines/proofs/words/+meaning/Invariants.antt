use Rattle.std.proofs.Common.{length}
use Rattle.text_lines.proofs.words.+meaning.Given as goal

abbrev pub decreases-meaning : goal.decreases-meaning
decreases-meaning g l = length l.rows.now
