use Rattle.std.proofs.Common.{◌+◌, ◌*◌}
use Rattle.frame_text.proofs.conditions.+conditions.Given as goal

abbrev pub decreases-condition : goal.decreases-condition
decreases-condition g l = 2 * l.depth

abbrev pub decreases-pair : goal.decreases-pair
decreases-pair g l = 2 * l.depth + 1
