use Rattle.job_moments.specs.Awaiting.{due_of}
use Rattle.job_moments.specs.Chunks.{lines_in}
use Rattle.job_moments.proofs.Chunking.{quiet_lines}
use Rattle.job_moments.proofs.waiting.is_quiet_chunk.Goals as goal

pub returns : goal.returns
returns g c = λ quiet.
    let chunk = c.args.chunk.now in
    let made = c.args.counts.now.made in
    quiet_lines due_of chunk.quiet made c.args.next.now (lines_in chunk) c.requires.sleeps (c.has.ensures made c.number.ensures quiet)
