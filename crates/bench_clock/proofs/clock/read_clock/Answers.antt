use Rattle.std.proofs.Common.{ap, ◌∙◌}
use Rattle.bench_clock.proofs.Streamed.{both_same}
use Rattle.bench_clock.proofs.clock.read_clock.Goals as goal

pub returns-clause-clock : goal.returns-clause-clock
returns-clause-clock g c file is =
    let found = c.in_ok-read_marks.ensures.found file is in
    (found.0, c.read_of.ensures.clock ∙ found.1)

pub returns-clause-unread : goal.returns-clause-unread
returns-clause-unread g c file is =
    let found = c.in_ok-read_marks.ensures.found file is in
    let any = c.in_ok-read_marks.ensures.any file is in
    (found.0, c.read_of.ensures.unread ∙ both_same _ _ _ _ any.1 found.1)
