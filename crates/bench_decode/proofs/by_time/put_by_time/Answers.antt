use Rattle.bench_decode.proofs.by_time.put_by_time.Goals as goal

pub returns-clause-put : goal.returns-clause-put
returns-clause-put g c = λ are.
    let sorted = rw c.as_slice.ensures.value at c.in_ok-put_sorted.ensures are in
    record { sorted = c.in_ok-messages.messages.items; order = c.in_ok-messages.ensures; put = sorted.0; count = sorted.1 }
