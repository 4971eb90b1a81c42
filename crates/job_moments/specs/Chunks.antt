-- Lines in chunks, each with messages in front of which none of its lines is due.
use Rattle.std.specs.Prelude.{◌≡◌, ◌++◌, [], ◌∷◌, Bool, List, All, Result, Ok, Err}
use Rattle.std.specs.List.{flat_map}
use Rattle.job_moments.specs.declared.chunks.Chunk.{Chunk}
use Rattle.job_moments.specs.declared.met.Met.{Met}
use Rattle.job_moments.specs.Quiet.{Sleeps}

module _ {L : Type 0} where
  abbrev pub lines_in : Chunk L → List L
  lines_in c = c.lines.items

  -- in the order of the text
  abbrev pub lines_of : List (Chunk L) → List L
  lines_of chunks = flat_map lines_in chunks

  -- what is put behind the others: a line, or nothing where memory is short
  abbrev pub behind : {X E : Type 0} → L → Result X E → List L
  behind line (Ok done) = line ∷ []
  behind line (Err e) = []

  -- these lines stand behind the old ones, and of each chunk that changed nothing is known
  pub record Puts (old new : List (Chunk L)) (more : List L) : Type 0 where
    pub front : List (Chunk L)
    pub rest : List (Chunk L)
    pub changed : List (Chunk L)
    pub old_is : old ≡ front ++ rest
    pub new_is : new ≡ front ++ changed
    pub lines : lines_of changed ≡ lines_of rest ++ more
    pub unknown : All (λ (c : Chunk L). c.quiet.wake ≡ 0) changed

  -- the first of them has no line
  pub record StartsEmpty (chunks : List (Chunk L)) : Type 0 where
    pub first : Chunk L
    pub rest : List (Chunk L)
    pub is : chunks ≡ first ∷ rest
    pub none : lines_in first ≡ []

  -- some are gone from the front, none of which had a line
  pub record Drops (old new : List (Chunk L)) : Type 0 where
    pub front : List (Chunk L)
    pub old_is : old ≡ front ++ new
    pub none : lines_of front ≡ []

  -- each line is as it must be, and none is due at the messages that are quiet
  pub record Knows (Stands : L → Type 0) (due : L → List Met → Met → Bool) (made : List Met) (c : Chunk L)
      : Type 0 where
    pub stand : All Stands (lines_in c)
    pub sleeps : All (λ (l : L). Sleeps c.quiet made (due l)) (lines_in c)
