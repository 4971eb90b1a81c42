use Rattle.job_moments.specs.Awaiting.{due_of}
use Rattle.job_moments.specs.Groups.{lines_inside}
use Rattle.job_moments.proofs.Chunking.{quiet_lines}
use Rattle.job_moments.proofs.waiting.is_quiet_group.Goals as goal

pub returns : goal.returns
returns g c = λ quiet.
    let group = c.args.group.now in
    let made = c.args.counts.now.made in
    quiet_lines due_of group.quiet made c.args.next.now (lines_inside group) c.requires.sleeps (c.has.ensures made c.number.ensures quiet)
