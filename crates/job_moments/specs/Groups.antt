-- Chunks in groups, each with messages in front of which no line of its chunks is due.
use Rattle.std.specs.Prelude.{◌≡◌, ◌≢◌, ℕ, ◌<◌, ◌++◌, Bool, List, All, length, slice_index_or}
use Rattle.std.specs.List.{flat_map}
use Rattle.job_moments.specs.declared.chunks.Chunk.{Chunk}
use Rattle.job_moments.specs.declared.groups.Group.{Group}
use Rattle.job_moments.specs.declared.met.Met.{Met}
use Rattle.job_moments.specs.Chunks.{lines_of, Knows, Puts}
use Rattle.job_moments.specs.declared.quiet.Quiet.{Quiet}
use Rattle.job_moments.specs.Quiet.{IsPart, Sleeps}

module _ {L : Type 0} where
  abbrev pub chunks_in : Group L → List (Chunk L)
  chunks_in g = g.chunks.items

  abbrev pub chunks_of : List (Group L) → List (Chunk L)
  chunks_of groups = flat_map chunks_in groups

  abbrev pub lines_inside : Group L → List L
  lines_inside g = lines_of (chunks_in g)

  -- in the order of the text
  abbrev pub lines_of_groups : List (Group L) → List L
  lines_of_groups groups = flat_map lines_inside groups

  -- these lines stand behind the old ones, and of each group that changed nothing is known
  pub record PutsGroup (old new : List (Group L)) (more : List L) : Type 0 where
    pub front : List (Group L)
    pub rest : List (Group L)
    pub changed : List (Group L)
    pub old_is : old ≡ front ++ rest
    pub new_is : new ≡ front ++ changed
    pub lines : Puts (chunks_of rest) (chunks_of changed) more
    pub unknown : All (λ (g : Group L). g.quiet.wake ≡ 0) changed

  -- they are quiet for each of these groups but the one of a place
  abbrev pub IsPartBeside : Quiet → ℕ → List (Group L) → Type 0
  IsPartBeside quiet place groups =
      (k : ℕ) (d : Group L) → k < length groups → k ≢ place → IsPart quiet (slice_index_or groups k d).quiet

  -- what is true of each line of these groups but of those of the one of a place
  abbrev pub AllBeside : (L → Type 0) → ℕ → List (Group L) → Type 0
  AllBeside P place groups =
      (k : ℕ) (d : Group L) → k < length groups → k ≢ place → All P (lines_inside (slice_index_or groups k d))

  -- what is known of each of its chunks, and no line of them is due at the messages that are quiet
  pub record KnowsInside (Stands : L → Type 0) (due : L → List Met → Met → Bool) (made : List Met) (g : Group L)
      : Type 0 where
    pub chunks : All (Knows Stands due made) (chunks_in g)
    pub sleeps : All (λ (l : L). Sleeps g.quiet made (due l)) (lines_inside g)
