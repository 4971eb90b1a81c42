use Rattle.std.proofs.Common.{◌≡◌, ◌+◌, ◌≤◌, List, length}
use Rattle.job_file.specs.Lines.{Said}
use Rattle.job_file.specs.HeadLines.{head_of}
use Rattle.job_file.specs.Drafts.{shown}
use Rattle.job_file.specs.JobRanges.{IsFit}
use Rattle.job_file.specs.Spelled.{written}
use Rattle.job_file.proofs.HeadLemmas.{job_left}
use Rattle.job_file.proofs.FirstFaults.{IsReadTo}
use Rattle.job_file.proofs.reading.read_head.Given as goal

abbrev pub invariant-loop-rest : goal.invariant-loop-rest
invariant-loop-rest l = (above : List Said) × (shown l.draft ≡ head_of above) × (written l.fn.text ≡ job_left above l.rest) × IsFit (shown l.draft)
    × IsReadTo l.fn.text l.rest (shown l.draft) l.line × (l.line + length l.rest ≤ length l.fn.text + 1)

abbrev pub decreases-loop-rest : goal.decreases-loop-rest
decreases-loop-rest l = length l.rest
