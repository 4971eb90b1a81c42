use Rattle.signal_values.proofs.texts.+put_fraction.Given as goal

-- each call has one digit fewer
abbrev pub decreases-put_fraction : goal.decreases-put_fraction
decreases-put_fraction l = l.count
