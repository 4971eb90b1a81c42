use Rattle.signal_values.proofs.texts.+put_digits.Given as goal

-- each call has one digit fewer
abbrev pub decreases-put_digits : goal.decreases-put_digits
decreases-put_digits l = l.count
