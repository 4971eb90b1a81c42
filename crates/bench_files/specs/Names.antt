-- The name that a file has until it is whole (own choice).
use Rattle.std.specs.Prelude.{ℕ, List, ◌++◌, codes}

abbrev pub part_of : List ℕ → List ℕ
part_of path = path ++ codes ".part"
