use Rattle.bench_decode.proofs.front.put_place_by.Goals as goal

pub returns-in-Some-clause-put : goal.returns-in-Some-clause-put
returns-in-Some-clause-put c = rw c.in-Some.is c.put_timed_place.ensures.put

pub returns-in-None-clause-put : goal.returns-in-None-clause-put
returns-in-None-clause-put c = rw c.in-None.is c.put_wide_place.ensures.put
