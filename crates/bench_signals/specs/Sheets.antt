-- The signals of a recording as comma-separated values (own choice): a row of names, and then, in the file's order, a
-- row for each value of a selected message that is shown, or a row a message.
use Rattle.std.specs.Prelude.{ℕ, ◌+◌, Bool, false, ◌||◌, if◌then◌else◌, List, [], ◌∷◌, ◌++◌, length, map, reverse}
use Rattle.std.specs.Prelude.{codes, Option, Some, None, is_some}
use Rattle.std.specs.List.{flat_map}
use Rattle.csv.specs.Writing.{default_writer, row_text}
use Rattle.ch11_layout.specs.Stamps.{Recorded}
use Rattle.ch11_reader.specs.Recording.{Found}
use Rattle.signal_dictionary.specs.declared.signals.Signal.{Signal}
use Rattle.bench_clock.specs.declared.clock.Mark.{Mark}
use Rattle.bench_select.specs.Selecting.{selects}
use Rattle.bench_select.specs.Viewed.{Viewed, viewed_in}
use Rattle.bench_export.specs.Frames.{frame_row}
use Rattle.bench_export.specs.Stamped.{stamped_columns, stamped_names}
use Rattle.bench_export.specs.Tables as tables
use Rattle.bench_export.specs.declared.columns.Columns.{Columns}
use Rattle.bench_export.specs.declared.columns.Columns.TheVariants as columns
use Rattle.bench_signals.specs.Values.{text_in, latest_text, shown_if}
use Rattle.bench_signals.specs.declared.sheet.Rows.{Rows}
use Rattle.bench_signals.specs.declared.sheet.Rows.TheVariants.{Values, Messages, Frames}
use Rattle.bench_signals.specs.declared.sheet.Sheet.{Sheet}

-- what is shown of a signal in the next message behind these
abbrev pub shown_in : Sheet → List Viewed → Viewed → Signal → Option (List ℕ)
shown_in sheet earlier h s =
    shown_if sheet.changes (text_in s h.0 h.1) (latest_text sheet.table.selection s h.0 earlier)

-- the columns that say which message it is and when it was
abbrev pub front : Sheet → List Mark → ℕ → ℕ → Recorded → List (List ℕ)
front sheet clock n channel m = stamped_columns sheet.table.columns sheet.table.timed clock n channel m

-- the row of a value
abbrev pub value_row : Sheet → List Mark → ℕ → ℕ → Recorded → Signal → Option (List ℕ) → List ℕ
value_row sheet clock n channel m s None = []
value_row sheet clock n channel m s (Some text) =
    row_text default_writer (front sheet clock n channel m ++ (s.name.bytes.items ∷ text ∷ s.unit.bytes.items ∷ []))

abbrev pub values_text : Sheet → List Mark → List Viewed → Viewed → List Signal → List ℕ
values_text sheet clock earlier h signals =
    flat_map (λ (s : Signal). value_row sheet clock (length earlier + 1) h.0 h.1 s (shown_in sheet earlier h s)) signals

-- a cell for each signal, empty where nothing is shown of it, and whether anything is shown
abbrev pub cell_of : Option (List ℕ) → List ℕ
cell_of None = []
cell_of (Some text) = text

abbrev pub cells : Sheet → List Viewed → Viewed → List Signal → List (List ℕ)
cells sheet earlier h [] = []
cells sheet earlier h (s ∷ signals) = cell_of (shown_in sheet earlier h s) ∷ cells sheet earlier h signals

abbrev pub shows_any : Sheet → List Viewed → Viewed → List Signal → Bool
shows_any sheet earlier h [] = false
shows_any sheet earlier h (s ∷ signals) = is_some (shown_in sheet earlier h s) || shows_any sheet earlier h signals

-- words stand behind 0x
abbrev pub is_prefixed : Columns → Bool
is_prefixed columns.Messages = false
is_prefixed (columns.Frames prefixed) = prefixed

-- the row of a message with these columns behind the first
abbrev pub message_row : Sheet → List Mark → List Viewed → Viewed → List (List ℕ) → List ℕ
message_row sheet clock earlier h behind =
    row_text default_writer (front sheet clock (length earlier + 1) h.0 h.1 ++ behind)

-- with a cell for each signal, where anything is shown
abbrev pub any_text : Sheet → List Mark → List Viewed → Viewed → List ℕ
any_text sheet clock earlier h =
    if shows_any sheet earlier h sheet.signals.now
    then message_row sheet clock earlier h (cells sheet earlier h sheet.signals.now) else []

-- with the columns of data frames and a cell for each signal
abbrev pub frame_text : Sheet → List Mark → List Viewed → Viewed → List ℕ
frame_text sheet clock earlier h =
    message_row sheet clock earlier h (frame_row (is_prefixed sheet.table.columns) h.1
    ++ cells sheet earlier h sheet.signals.now)

-- the rows of a selected message
abbrev pub rows_by : Rows → Sheet → List Mark → List Viewed → Viewed → List ℕ
rows_by Values sheet clock earlier h = values_text sheet clock earlier h sheet.signals.now
rows_by Messages sheet clock earlier h = any_text sheet clock earlier h
rows_by Frames sheet clock earlier h = frame_text sheet clock earlier h

-- the next message behind these is selected
abbrev pub is_selected : Sheet → List Viewed → Viewed → Bool
is_selected sheet earlier h = selects sheet.table.selection (length earlier + 1) h.0 h.1

-- its rows, if it is selected
unfoldable pub rows_if : Sheet → List Mark → List Viewed → Viewed → List ℕ
rows_if sheet clock earlier h =
    if is_selected sheet earlier h then rows_by sheet.rows sheet clock earlier h else []

-- the rows of all messages of a history
abbrev pub rows_of : Sheet → List Mark → List Viewed → List ℕ
rows_of sheet clock [] = []
rows_of sheet clock (h ∷ earlier) = rows_of sheet clock earlier ++ rows_if sheet clock earlier h

-- the names of the columns
abbrev pub signal_names : List Signal → List (List ℕ)
signal_names signals = map (λ (s : Signal). s.name.bytes.items) signals

abbrev pub value_names : List (List ℕ)
value_names = codes "signal" ∷ codes "value" ∷ codes "unit" ∷ []

abbrev pub frame_names : Sheet → List (List ℕ)
frame_names sheet = tables.names_of sheet.table ++ signal_names sheet.signals.now

abbrev pub names_by : Rows → Sheet → List (List ℕ)
names_by Values sheet = stamped_names sheet.table.columns sheet.table.timed ++ value_names
names_by Messages sheet =
    stamped_names sheet.table.columns sheet.table.timed ++ signal_names sheet.signals.now
names_by Frames sheet = frame_names sheet

abbrev pub names_of : Sheet → List (List ℕ)
names_of sheet = names_by sheet.rows sheet

-- a whole recording
abbrev pub signals_text : Sheet → List Mark → List Found → List ℕ
signals_text sheet clock ps =
    row_text default_writer (names_of sheet) ++ rows_of sheet clock (reverse (viewed_in ps))
