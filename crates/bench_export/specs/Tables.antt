-- An exported recording as comma-separated values (own choice): a row with the names of the columns, and then one row a
-- selected message, in the file's order. A clock tells the time of day at its stamp.
use Rattle.std.specs.Prelude.{ℕ, ◌+◌, if◌then◌else◌, List, [], ◌∷◌, ◌++◌, length}
use Rattle.csv.specs.Writing.{default_writer, row_text}
use Rattle.ch11_f1.specs.BodyReading.{Message}
use Rattle.ch11_layout.specs.Stamps.{Recorded, recorded, kind_of}
use Rattle.ch11_layout.specs.declared.stamps.StampKind.{StampKind}
use Rattle.ch11_reader.specs.Recording.{Found}
use Rattle.bench_clock.specs.declared.clock.Mark.{Mark}
use Rattle.bench_select.specs.Selecting.{selects}
use Rattle.bench_export.specs.Rows.{names, row_of}
use Rattle.bench_export.specs.Frames.{frame_names, frame_row}
use Rattle.bench_export.specs.Stamped.{stamped_columns, stamped_names}
use Rattle.bench_export.specs.declared.columns.Columns.{Columns}
use Rattle.bench_export.specs.declared.table.Table.{Table}
use Rattle.bench_export.specs.declared.columns.Columns.TheVariants.{Messages, Frames}

-- the names of the columns behind the time of a message
abbrev pub other_names_of : Columns → List (List ℕ)
other_names_of Messages = names
other_names_of (Frames prefixed) = frame_names

abbrev pub names_of : Table → List (List ℕ)
names_of table = stamped_names table.columns table.timed ++ other_names_of table.columns

-- the columns behind the time of a message
abbrev pub other_columns_of : Columns → Recorded → List (List ℕ)
other_columns_of Messages m = row_of m
other_columns_of (Frames prefixed) m = frame_row prefixed m

-- the columns of message n
abbrev pub columns_of : Table → List Mark → ℕ → ℕ → Recorded → List (List ℕ)
columns_of table clock n channel m =
    stamped_columns table.columns table.timed clock n channel m ++ other_columns_of table.columns m

-- the row of message n, if it is selected
unfoldable pub row_if : Table → List Mark → ℕ → ℕ → Recorded → List ℕ
row_if table clock n channel m =
    if selects table.selection n channel m then row_text default_writer (columns_of table clock n channel m) else []

-- the rows of messages of one channel, behind so many messages of the file, whose stamps are of this kind
abbrev pub rows_text : Table → List Mark → StampKind → ℕ → ℕ → List Message → List ℕ
rows_text table clock kind before channel [] = []
rows_text table clock kind before channel (m ∷ ms) =
    row_if table clock (before + 1) channel (recorded kind m) ++ rows_text table clock kind (before + 1) channel ms

-- the rows of packets, behind so many messages of the file
abbrev pub packets_text : Table → List Mark → ℕ → List Found → List ℕ
packets_text table clock before [] = []
packets_text table clock before (p ∷ ps) =
    rows_text table clock (kind_of p.header) before p.header.channel p.messages
    ++ packets_text table clock (before + length p.messages) ps

-- a whole recording
abbrev pub export_text : Table → List Mark → List Found → List ℕ
export_text table clock ps = row_text default_writer (names_of table) ++ packets_text table clock 0 ps
