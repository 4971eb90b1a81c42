use Rattle.std.proofs.Common.{◌≡◌, ◌<◌, ◌≤◌, ℕ, get_or}
use Rattle.job_moments.specs.declared.chunks.Chunk.{Chunk}
use Rattle.job_moments.specs.declared.waiting.Pending.{Pending}
use Rattle.job_moments.specs.Awaiting.{KnowsChunk}
use Rattle.job_moments.specs.Chunks.{lines_in}
use Rattle.job_moments.proofs.Taking.{IsPassed}
use Rattle.job_moments.proofs.waiting.take_first.Given as goal

-- none of the lines of the chunks so far is due
abbrev pub invariant-loop-chunk : goal.invariant-loop-chunk
invariant-loop-chunk g l = record {
  done : (k : ℕ) (d : Chunk (Pending g.row.T.Denot)) → k < l.chunk-index → IsPassed lines_in l.counts.made l.next (get_or l.fn.chunks k d) (get_or l.chunks k d);
  known : (k : ℕ) (d : Chunk (Pending g.row.T.Denot)) → k < l.chunk-index → KnowsChunk l.counts (get_or l.chunks k d);
  rest : (k : ℕ) (d : Chunk (Pending g.row.T.Denot)) → l.chunk-index ≤ k → get_or l.chunks k d ≡ get_or l.fn.chunks k d;
}
