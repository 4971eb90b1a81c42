use Rattle.job_moments.specs.Awaiting.{due_of}
use Rattle.job_moments.proofs.Grouping.{beside_still}
use Rattle.job_moments.proofs.waiting.is_near.Goals as goal

pub returns-clause-still : goal.returns-clause-still
returns-clause-still g c = λ quiet.
    let made = c.args.counts.now.made in
    let near = c.args.near.now in
    beside_still due_of made c.args.next.now near.others near.place c.args.groups.now c.requires (c.has.ensures made c.number.ensures quiet)
