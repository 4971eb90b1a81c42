-- Lines that wait for a writer.
use Rattle.std.specs.Prelude.{◌≡◌, ℕ, ◌+◌, ◌≤◌, List, [], ◌++◌, length, Option}
use Rattle.bench_dump.specs.Printing.{Carries}
use Rattle.bench_decode.specs.declared.line.Shown.{Shown}
use Rattle.bench_decode.specs.Columns.{Part, control, drawn, columns_behind}

-- the bytes that wait, how many columns the line has that they end with, and how lines are shown
pub record Waiting : Type 0 where
  pub text : List ℕ
  pub columns : ℕ
  pub shown : Shown

-- no line yet
abbrev pub no_lines : Shown → Waiting
no_lines shown = record { text = []; columns = 0; shown = shown }

-- with text behind it
unfoldable pub told : Waiting → List ℕ → Waiting
told w bytes = record { text = w.text ++ bytes; columns = w.columns + length bytes; shown = w.shown }

-- with a control sequence behind it, where lines are coloured
unfoldable pub controlled : Waiting → List ℕ → Waiting
controlled w bytes = record { text = w.text ++ control w.shown bytes; columns = w.columns; shown = w.shown }

-- with parts of the line behind it
unfoldable pub drawn_on : Waiting → List Part → Waiting
drawn_on w parts = record {
  text = w.text ++ drawn w.shown w.columns parts;
  columns = columns_behind w.columns parts;
  shown = w.shown;
}

-- a line begins
abbrev pub begun : Waiting → Waiting
begun w = record { text = w.text; columns = 0; shown = w.shown }

-- the buffer, how much of it waits, and from where the columns count
pub record IsBuffer (bytes : List ℕ) (len begin : ℕ) : Type 0 where
  pub size : length bytes ≡ 65536
  pub within : len ≤ 65536
  pub begins : begin ≤ len

-- of these lines the writer may have got some: what it got and what waits, taken together, grew by these bytes
pub record IsPut (got : Option (List ℕ)) (before : Waiting) (gets : Option (List ℕ)) (after : Waiting)
    (more : List ℕ) : Type 0 where
  pub carried : Carries got before.text gets after.text more
  pub shown : after.shown ≡ before.shown
