-- The columns that say which message it is and when it was (own choice): its number, its channel, its stamp, and where
-- it is asked for the time of day behind it, its own or by the recording's time packets.
use Rattle.std.specs.Prelude.{ℕ, Bool, true, false, List, [], ◌∷◌, ◌++◌, codes, decimal, Option, None, Some}
use Rattle.ch11_layout.specs.Stamps.{Recorded, time_of}
use Rattle.bench_clock.specs.declared.clock.Mark.{Mark}
use Rattle.bench_clock.specs.Clock.{time_of_stamp}
use Rattle.bench_clock.specs.Time.{Time}
use Rattle.bench_clock.specs.TimeText.{text_of}
use Rattle.bench_export.specs.Rows.{micros}
use Rattle.bench_export.specs.Frames.{seconds_text}
use Rattle.bench_export.specs.declared.columns.Columns.{Columns}
use Rattle.bench_export.specs.declared.columns.Columns.TheVariants.{Messages, Frames}

-- a stamp in µs, or in seconds for data frames, '-' where no time is known
abbrev pub stamp_text : Columns → ℕ → List ℕ
stamp_text Messages ticks = micros ticks
stamp_text (Frames prefixed) ticks = seconds_text ticks

abbrev pub stamp_field : Columns → Option ℕ → List ℕ
stamp_field columns None = codes "-"
stamp_field columns (Some ticks) = stamp_text columns ticks

abbrev pub stamp_name : Columns → List ℕ
stamp_name Messages = codes "time_us"
stamp_name (Frames prefixed) = codes "time_s"

-- a time of day, nothing where there is none
abbrev pub time_field : Option Time → List ℕ
time_field None = []
time_field (Some time) = text_of time

-- the column of the time of day, where it is asked for
abbrev pub time_columns : Bool → Option Time → List (List ℕ)
time_columns false time = []
time_columns true time = time_field time ∷ []

abbrev pub time_names : Bool → List (List ℕ)
time_names false = []
time_names true = codes "time" ∷ []

-- the first columns of message n of the file
abbrev pub number_columns : Columns → ℕ → ℕ → Recorded → List (List ℕ)
number_columns columns n channel m = decimal n ∷ decimal channel ∷ stamp_field columns (time_of m) ∷ []

abbrev pub number_names : Columns → List (List ℕ)
number_names columns = codes "number" ∷ codes "channel" ∷ stamp_name columns ∷ []

-- and the time of day behind them
abbrev pub stamped_columns : Columns → Bool → List Mark → ℕ → ℕ → Recorded → List (List ℕ)
stamped_columns columns timed clock n channel m =
    number_columns columns n channel m ++ time_columns timed (time_of_stamp clock m.kind m.stamp)

abbrev pub stamped_names : Columns → Bool → List (List ℕ)
stamped_names columns timed = number_names columns ++ time_names timed
