-- What a writer stands for.
use Rattle.std.specs.Prelude.{◌≡◌, ℕ, ◌≤◌, List, ◌++◌, Bool, false, length, take}
use Rattle.std.specs.declared.option.Option.{Option}
use Rattle.std.specs.Io.KnownBytes.{Appends}

-- a writer: its sink, how many bytes the sink took from it, whether the sink failed at one of its calls, and whether
-- the recording was finished
pub record Writing (S : Type 0) : Type 0 where
  pub sink : S
  pub taken : ℕ
  pub failed : Bool
  pub finished : Bool

-- how far a writer came: the bytes that its sink has taken, where they are known, how many it took from the writer, and
-- whether it failed
pub record Progress : Type 0 where
  pub bytes : Option (List ℕ)
  pub count : ℕ
  pub failed : Bool

-- the progress of a writer, where `taken` shows the bytes that a sink has taken
abbrev pub progress_of : {S : Type 0} → (S → Option (List ℕ)) → Writing S → Progress
progress_of taken w = record { bytes = taken w.sink; count = w.taken; failed = w.failed }

-- Of all bytes that were put, the sink has taken the first `count`, and all of them unless it failed. `before` is what
-- it had taken when the writer was made.
pub record IsWritten (put : List ℕ) (before : Option (List ℕ)) (now : Progress) : Type 0 where
  pub within : now.count ≤ length put
  pub taken : Appends before now.bytes (take now.count put)
  pub whole : now.failed ≡ false → now.count ≡ length put

-- the bytes come behind all that were put before
abbrev pub Puts : List ℕ → Progress → Progress → Type 0
Puts bytes old new = (put : List ℕ) (before : Option (List ℕ)) → IsWritten put before old
    → IsWritten (put ++ bytes) before new

-- no byte is put
abbrev pub PutsNone : Progress → Progress → Type 0
PutsNone old new = (put : List ℕ) (before : Option (List ℕ)) → IsWritten put before old → IsWritten put before new
