-- The lines of sources, read off their rows, one behind the other: inside the crate.
use Rattle.std.specs.Prelude.{ℕ, ◌-◌, Bool, false, if◌then◌else◌, List, [], ◌∷◌, ◌++◌, Option, Some, None, codes}
use Rattle.std.specs.Option.{is_some}
use Rattle.std.proofs.Common.{zero, suc}
use Rattle.text_lines.specs.Words.{Text}
use Rattle.controller_host.specs.declared.sources.Row.{Row}
use Rattle.controller_host.specs.Destinations.{is_same}
use Rattle.controller_text.specs.Printing.{destination_text}
use Rattle.bench_state.specs.Marks.{end_if}
use Rattle.bench_state.specs.ControllerText.{source_text}

-- whether a row stands on the line of the row before it
abbrev pub goes_on : Option Row → Row → Bool
goes_on None row = false
goes_on (Some other) row = is_same other.destination row.destination

-- the place of the row before, where it stands on the same line
abbrev pub place_before : Option Row → Row → ℕ
place_before None row = 0
place_before (Some other) row = if is_same other.destination row.destination then other.place else 0

abbrev pub dots : ℕ → Text
dots zero = []
dots (suc count) = codes " ...." ++ dots count

-- what stands in front of the first place of a line: the end of the line before, and its own begin
abbrev pub opening : Option Row → Row → Text
opening before row =
    if goes_on before row then []
    else (end_if (is_some before) ++ (codes "controller " ++ destination_text row.destination))

abbrev pub row_text : Option Row → Row → Text
row_text before row = opening before row ++ (dots (row.place - place_before before row - 1) ++ source_text row.source)

-- the rows behind a row, and the end of the last line
abbrev pub rows_text : Option Row → List Row → Text
rows_text before [] = end_if (is_some before)
rows_text before (row ∷ rest) = row_text before row ++ rows_text (Some row) rest
