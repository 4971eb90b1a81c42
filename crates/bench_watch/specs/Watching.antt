-- What a file gives that is watched.
use Rattle.std.specs.Prelude.{ℕ, List, Option}
use Rattle.bench_watch.specs.declared.watching.Watched.{Watched}

module _ {F C E : Type 0} (remaining : F → Option (List ℕ)) where
  -- the bytes to come are those of the file, where they are known
  abbrev pub watched_remaining : Watched F C E → Option (List ℕ)
  watched_remaining w = remaining w.file
