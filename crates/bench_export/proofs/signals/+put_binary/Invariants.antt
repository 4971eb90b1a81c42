use Rattle.bench_export.proofs.signals.+put_binary.Given as goal

-- each call has four digits fewer
abbrev pub decreases-put_binary : goal.decreases-put_binary
decreases-put_binary l = l.most
