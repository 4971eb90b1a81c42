use Rattle.std.proofs.Common.{◌≡◌, ◌<◌, ◌≤◌, ℕ, get_or}
use Rattle.job_moments.specs.declared.chunks.Chunk.{Chunk}
use Rattle.job_moments.specs.declared.planning.Rule.{Rule}
use Rattle.job_moments.specs.Chunks.{lines_in}
use Rattle.job_moments.specs.Rules.{KnowsChunk}
use Rattle.job_moments.proofs.planning.learn_all.Given as goal

-- the chunks so far have learned it
abbrev pub invariant-loop-chunk : goal.invariant-loop-chunk
invariant-loop-chunk l = record {
  done : (k : ℕ) (d : Chunk Rule) → k < l.chunk-index → lines_in (get_or l.chunks k d) ≡ lines_in (get_or l.fn.chunks k d);
  known : (k : ℕ) (d : Chunk Rule) → k < l.chunk-index → KnowsChunk l.counts (get_or l.chunks k d);
  rest : (k : ℕ) (d : Chunk Rule) → l.chunk-index ≤ k → get_or l.chunks k d ≡ get_or l.fn.chunks k d;
}
