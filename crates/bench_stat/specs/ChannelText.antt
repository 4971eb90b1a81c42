-- The figures of a channel as lines (own choice): what it carried, its errors, and its terminals, aligned for people;
-- or its terminals as rows of comma-separated values.
use Rattle.std.specs.Prelude.{ℕ, ◌+◌, ◌*◌, ◌/◌, ◌%◌, ◌==◌, Bool, true, false, not, ◌||◌, nat_lt, if◌then◌else◌}
use Rattle.std.specs.Prelude.{List, [], ◌∷◌, ◌++◌, codes, decimal, Option, None, Some}
use Rattle.std.specs.List.{flat_map, list_any}
use Rattle.text_lines.specs.Words.{Text}
use Rattle.mil_word.specs.Fields.{all_terminals}
use Rattle.ch11_layout.specs.declared.stamps.StampKind.{StampKind}
use Rattle.ch11_layout.specs.declared.stamps.StampKind.TheVariants.{Counter, TimeOfDay, Unknown}
use Rattle.bench_clock.specs.Time.{Time}
use Rattle.ch11_reader.specs.Contents.{capped}
use Rattle.bench_stat.specs.declared.channels.ChannelFigures.{ChannelFigures}
use Rattle.bench_stat.specs.declared.errors.Errors.{Errors}
use Rattle.bench_stat.specs.declared.terminals.TerminalFigures.{TerminalFigures}
use Rattle.bench_stat.specs.declared.traffic.Traffic.{Traffic}
use Rattle.bench_stat.specs.Figures.{share_of}
use Rattle.bench_stat.specs.Stretches.{kept_span}
use Rattle.bench_stat.specs.Times.{Between}
use Rattle.bench_stat.specs.UnitText.{column, day_text, digits_text, hundredths_text}
use Rattle.bench_stat.specs.UnitText.{tenths_text}

-- all stamps are told by one clock
abbrev pub is_known : Option StampKind → Bool
is_known None = true
is_known (Some Counter) = true
is_known (Some TimeOfDay) = true
is_known (Some Unknown) = false

abbrev pub has_times : Traffic → Bool
has_times t = is_known t.stamps

-- the span and the load where they are
abbrev pub known_span : Traffic → Option ℕ
known_span t = if has_times t then Some (kept_span t.stretches) else None

abbrev pub load_of : Traffic → Option ℕ
load_of t = share_of t.busy (kept_span t.stretches)

abbrev pub known_load : Traffic → Option ℕ
known_load t = if has_times t then load_of t else None

-- ---- what a channel carried

abbrev pub span_line : Option ℕ → Text
span_line None = codes "  span      -\n"
span_line (Some span) =
    codes "  span      " ++ (decimal (span / 10) ++ (codes "." ++ (decimal (span % 10) ++ codes " us\n")))

-- how often stamps fall, where they do
abbrev pub fall_words : ℕ → Text
fall_words falls = if falls == 1 then codes "  stamps    fall once: the span is that of 2 stretches\n"
    else codes "  stamps    fall " ++ (decimal falls ++ (codes " times: the span is that of "
    ++ (decimal (capped (falls + 1)) ++ codes " stretches\n")))

abbrev pub falls_line : Traffic → Text
falls_line t = if t.stretches.falls == 0 || not (has_times t) then [] else fall_words t.stretches.falls

-- the times of day of the first and of the last message, where there is one
abbrev pub times_between : Option Time → Option Time → Text
times_between first last = codes "  time      " ++ (day_text (codes "-") first ++ (codes " to "
    ++ (day_text (codes "-") last ++ codes "\n")))

abbrev pub times_of : Option Time → Option Time → Text
times_of None None = []
times_of None (Some last) = times_between None (Some last)
times_of (Some first) last = times_between (Some first) last

abbrev pub times_line : Option Between → Text
times_line None = []
times_line (Some times) = times_of times.0 times.1

abbrev pub counts_lines : Traffic → Text
counts_lines t =
    codes "  messages  " ++ (decimal t.messages ++ (codes "\n  words     " ++ (decimal t.words ++ codes "\n")))

abbrev pub load_line : Option ℕ → Text
load_line None = codes "  bus load  -\n"
load_line (Some load) = codes "  bus load  "
    ++ (decimal (load / 100) ++ (codes "." ++ (digits_text 2 (load % 100) ++ codes " %\n")))

unfoldable pub traffic_lines : Traffic → Option Between → Text
traffic_lines t times = span_line (known_span t) ++ (falls_line t ++ (times_line times
    ++ (counts_lines t ++ load_line (known_load t))))

-- ---- errors, retries

abbrev pub errors_in_front : Errors → Text
errors_in_front e = codes "  errors    " ++ (decimal e.messages ++ (codes " messages: no response or late "
    ++ (decimal e.response ++ (codes ", word count " ++ decimal e.word_count))))

abbrev pub errors_behind : Errors → Text
errors_behind e = codes ", sync " ++ (decimal e.sync ++ (codes ", unsound word " ++ (decimal e.unsound
    ++ (codes ", other " ++ (decimal e.other ++ codes "\n")))))

unfoldable pub errors_line : Errors → Text
errors_line e = errors_in_front e ++ errors_behind e

abbrev pub retries_line : ℕ → Text
retries_line retries = codes "  retries   " ++ (decimal retries ++ codes " on the other line\n")

-- ---- terminals

abbrev pub commands_of : TerminalFigures → ℕ
commands_of f = capped (capped (f.receive + f.transmit) + f.mode)

abbrev pub is_called : TerminalFigures → Bool
is_called f = nat_lt 0 (commands_of f)

-- the mean response time in hundredths of a µs, rounded down; none where there was no response
abbrev pub mean_of : TerminalFigures → Option ℕ
mean_of f = if f.responses == 0 then None else Some (capped (f.total * 10 / f.responses))

-- commands of each kind, errors and responses
abbrev pub counts_of : TerminalFigures → List ℕ
counts_of f = f.receive ∷ f.transmit ∷ f.mode ∷ f.errors ∷ f.responses ∷ []

-- an address, 'all' for that of all terminals
abbrev pub address_column : ℕ → Text
address_column address = if address == all_terminals then codes "       all" else column 10 address

abbrev pub response_columns : TerminalFigures → Option ℕ → Text
response_columns f None = codes "         -         -            -\n"
response_columns f (Some mean) =
    codes " " ++ (column 7 (f.least / 10) ++ (codes "." ++ (decimal (f.least % 10) ++ (codes " "
    ++ (column 6 (mean / 100) ++ (codes "." ++ (digits_text 2 (mean % 100) ++ (codes " "
    ++ (column 10 (f.greatest / 10) ++ (codes "." ++ (decimal (f.greatest % 10) ++ codes "\n")))))))))))

unfoldable pub terminal_line : ℕ → TerminalFigures → Text
terminal_line address f = address_column address ++ (flat_map (λ count. codes " " ++ column 10 count) (counts_of f)
    ++ response_columns f (mean_of f))

-- a text for each of a list that is asked for, with its number
abbrev pub numbered : {X : Type 0} → (ℕ → X → Text) → ℕ → List X → Text
numbered text number [] = []
numbered text number (x ∷ xs) = text number x ++ numbered text (number + 1) xs

abbrev pub called_line : ℕ → TerminalFigures → Text
called_line address f = if is_called f then terminal_line address f else []

abbrev pub columns_line : Text
columns_line =
    codes "  terminal    receive   transmit       mode     errors  responses  least us   mean us  greatest us\n"

unfoldable pub terminal_lines : List TerminalFigures → Text
terminal_lines fs = (if list_any is_called fs then columns_line else []) ++ numbered called_line 0 fs

-- ---- rows of comma-separated values

-- times in µs, empty where there was no response
abbrev pub response_fields : TerminalFigures → Option ℕ → Text
response_fields f None = codes ",,"
response_fields f (Some mean) =
    tenths_text f.least ++ (codes "," ++ (hundredths_text mean ++ (codes "," ++ tenths_text f.greatest)))

unfoldable pub terminal_row : ℕ → ℕ → TerminalFigures → Text
terminal_row channel address f = (decimal channel ++ (codes "," ++ (decimal address ++ codes ",")))
    ++ (flat_map (λ count. decimal count ++ codes ",") (counts_of f) ++ response_fields f (mean_of f))

-- the times of day behind a row, where they are asked for, and its end
abbrev pub row_end : Option Between → Text
row_end None = codes "\n"
row_end (Some times) =
    codes "," ++ (day_text [] times.0 ++ (codes "," ++ (day_text [] times.1 ++ codes "\n")))

abbrev pub called_row : ℕ → Option Between → ℕ → TerminalFigures → Text
called_row channel times address f = if is_called f then terminal_row channel address f ++ row_end times else []

unfoldable pub terminal_rows : ChannelFigures → Option Between → Text
terminal_rows figures times = numbered (called_row figures.channel times) 0 figures.terminals
