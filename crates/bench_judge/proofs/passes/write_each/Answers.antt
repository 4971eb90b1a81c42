use Rattle.bench_judge.proofs.passes.write_each.Goals as goal

pub returns-in-Ok : goal.returns-in-Ok
returns-in-Ok g c file is = c.write_missed_of.ensures file (c.in-Ok.ensures file is)
