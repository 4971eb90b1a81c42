use Rattle.signal_values.proofs.readings.+decimals.Given as goal

-- each call has one digit fewer
abbrev pub decreases-decimals : goal.decreases-decimals
decreases-decimals l = l.count
