-- Lines in columns (own choice). A line is built of parts, one behind the other: text, and spaces up to a column.
-- Columns are counted from 0 by what is seen, so what turns text red and back (ECMA-48, select graphic rendition) takes
-- none.
use Rattle.std.specs.Prelude.{ℕ, ◌+◌, ◌-◌, max, List, [], ◌∷◌, ◌++◌, length, codes, replicate}
use Rattle.bench_decode.specs.declared.line.Shown.{Shown}
use Rattle.bench_decode.specs.declared.line.Shown.TheVariants.{Plain, Colored}

pub data Part : Type 0 where
  -- bytes, each in a column
  text : List ℕ → Part
  -- spaces up to a column, where the line is not there yet
  upto : ℕ → Part
  -- the same, but one space at least
  past : ℕ → Part
  -- red from here on, and as ever from here on, where lines are coloured
  begin_red : Part
  end_red : Part

abbrev pub spaces : ℕ → List ℕ
spaces count = replicate count 32

-- a text at the end of so many columns; a longer one takes as many as it has
abbrev pub right : ℕ → List ℕ → List ℕ
right width bytes = spaces (width - length bytes) ++ bytes

-- a control sequence, where lines are coloured
abbrev pub control : Shown → List ℕ → List ℕ
control Plain bytes = []
control Colored bytes = bytes

abbrev pub red_control : List ℕ
red_control = 27 ∷ codes "[31m"

abbrev pub plain_control : List ℕ
plain_control = 27 ∷ codes "[0m"

-- how many columns a part takes behind so many
abbrev pub width_of : ℕ → Part → ℕ
width_of columns (text bytes) = length bytes
width_of columns (upto column) = column - columns
width_of columns (past column) = max (column - columns) 1
width_of columns begin_red = 0
width_of columns end_red = 0

-- the bytes of a part behind so many columns
abbrev pub bytes_of : Shown → ℕ → Part → List ℕ
bytes_of shown columns (text bytes) = bytes
bytes_of shown columns (upto column) = spaces (column - columns)
bytes_of shown columns (past column) = spaces (max (column - columns) 1)
bytes_of shown columns begin_red = control shown red_control
bytes_of shown columns end_red = control shown plain_control

-- the bytes of parts behind so many columns, and how many columns there are behind them
unfoldable pub drawn : Shown → ℕ → List Part → List ℕ
drawn shown columns [] = []
drawn shown columns (p ∷ ps) = bytes_of shown columns p ++ drawn shown (columns + width_of columns p) ps

unfoldable pub columns_behind : ℕ → List Part → ℕ
columns_behind columns [] = columns
columns_behind columns (p ∷ ps) = columns_behind (columns + width_of columns p) ps
