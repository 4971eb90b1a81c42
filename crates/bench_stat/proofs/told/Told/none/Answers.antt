use Rattle.bench_stat.proofs.told.Told.none.Goals as goal

pub returns : goal.returns
returns c = λ s channel. record { losses = c.none-losses.ensures.none channel; messages = c.in_ok-messages.ensures }
