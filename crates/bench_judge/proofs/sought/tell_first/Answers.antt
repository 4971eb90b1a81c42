use Rattle.bench_judge.proofs.sought.tell_first.Goals as goal

pub returns-in_ok-tell_in-in-Ok : goal.returns-in_ok-tell_in-in-Ok
returns-in_ok-tell_in-in-Ok g c = λ file is. (c.in_ok-tell_in-in-Ok.ensures file (c.in-Ok.ensures file is)).1
