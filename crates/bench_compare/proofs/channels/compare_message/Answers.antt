use Rattle.bench_compare.proofs.channels.compare_message.Goals as goal

pub returns-in_ok-without_second-in-None-clause-compared : goal.returns-in_ok-without_second-in-None-clause-compared
returns-in_ok-without_second-in-None-clause-compared c = rw c.in-None.is (c.in_ok-without_second-in-None.ensures c.args.within)
