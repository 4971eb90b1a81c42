use Rattle.std.proofs.Common.{length}
use Rattle.frame_code.proofs.writing.+version_for.Given as goal

abbrev pub decreases-version_for : goal.decreases-version_for
decreases-version_for l = length l.operations.now
