-- The sizes of an image as text (own choice).
use Rattle.std.specs.Prelude.{ℕ, List, ◌++◌, codes, decimal}

abbrev pub sizes_line : ℕ → ℕ → ℕ → List ℕ
sizes_line operations messages budget =
    codes "operations " ++ decimal operations ++ codes " messages " ++ decimal messages ++ codes " budget "
    ++ decimal budget
