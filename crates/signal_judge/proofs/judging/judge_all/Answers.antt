use Rattle.signal_judge.proofs.judging.judge_all.Goals as goal

pub returns-clause-plain : goal.returns-clause-plain
returns-clause-plain g c = λ file is.
    let judged = (c.in_ok-plain-in-Ok.ensures.judged file (c.in-Ok.ensures file is)).1 in
    rw c.as_slice.ensures.value at judged

pub returns-clause-signals : goal.returns-clause-signals
returns-clause-signals g c = λ file is.
    let judged = (c.in_ok-signals-in-Ok-reopen.ensures.judged file (c.in-Ok-reopen.ensures file is)).1 in
    rw c.as_slice-in-Ok-reopen.ensures.value at judged
