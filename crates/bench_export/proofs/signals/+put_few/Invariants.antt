use Rattle.bench_export.proofs.signals.+put_few.Given as goal

-- each call has one digit fewer
abbrev pub decreases-put_few : goal.decreases-put_few
decreases-put_few l = l.most
