use Rattle.std.proofs.Common.{take}
use Rattle.job_file.proofs.TextLemmas.{SpelledSoFar, AcceptedSoFar}
use Rattle.job_file.proofs.texts.read_jobs.Given as goal

-- so far each text gives the job at its place
abbrev pub invariant-loop-index : goal.invariant-loop-index
invariant-loop-index l = record {
  jobs : SpelledSoFar (take l.index l.texts) l.jobs.items;
  accepted : AcceptedSoFar l.texts l.index;
}
