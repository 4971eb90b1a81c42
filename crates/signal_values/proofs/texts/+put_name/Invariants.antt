use Rattle.std.proofs.Common.{length}
use Rattle.signal_values.proofs.texts.+put_name.Given as goal

-- each call has one name fewer
abbrev pub decreases-put_name : goal.decreases-put_name
decreases-put_name l = length l.namings.now
