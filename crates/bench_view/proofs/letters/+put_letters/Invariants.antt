use Rattle.bench_view.proofs.letters.+put_letters.Given as goal

-- each call has one letter fewer
abbrev pub decreases-put_letters : goal.decreases-put_letters
decreases-put_letters l = l.most
