-- The figures of a channel as a page for people (own choice), with what more is asked for: gaps and status bits, the
-- messages by terminal, direction and subaddress, and the load over time.
use Rattle.std.specs.Prelude.{ℕ, ◌/◌, ◌%◌, ◌-◌, ◌==◌, Bool, nat_lt, if◌then◌else◌, List, []}
use Rattle.std.specs.Prelude.{◌++◌, codes, decimal, min, replicate, Option, None, Some, nat_eq, ◌||◌, not}
use Rattle.std.specs.List.{flat_map, list_any}
use Rattle.std.specs.HashMap.{get}
use Rattle.std.specs.Option.{is_some}
use Rattle.text_lines.specs.Words.{Text}
use Rattle.bench_stat.specs.declared.channels.ChannelFigures.{ChannelFigures}
use Rattle.bench_stat.specs.declared.details.Details.{Details}
use Rattle.bench_stat.specs.declared.flows.Flow.{Flow}
use Rattle.bench_stat.specs.declared.losses.Losses.{Losses}
use Rattle.bench_stat.specs.declared.replies.Replies.{Replies}
use Rattle.bench_stat.specs.declared.shown.Shown.{Shown}
use Rattle.bench_stat.specs.declared.slices.Slice.{Slice}
use Rattle.bench_stat.specs.declared.told.Told.{Told}
use Rattle.bench_stat.specs.declared.following_packets.ToldChannels.{ToldChannels}
use Rattle.bench_stat.specs.declared.traffic.Traffic.{Traffic}
use Rattle.bench_stat.specs.ChannelText.{address_column, errors_line, falls_line, has_times, known_load, known_span}
use Rattle.bench_stat.specs.ChannelText.{load_line, numbered, retries_line, terminal_lines, times_line, traffic_lines}
use Rattle.bench_stat.specs.Details.{details_of}
use Rattle.bench_stat.specs.Figures.{share_of}
use Rattle.bench_stat.specs.Stretches.{kept_span}
use Rattle.bench_stat.specs.Times.{Between}
use Rattle.bench_stat.specs.UnitText.{column, digits_text, hundredths_text, rate_within, tenths_column}
use Rattle.bench_stat.specs.UnitText.{time_text, word_column}

-- ---- what is told of a channel beside its figures; as of nothing where it is not told

abbrev pub no_losses : Losses
no_losses = record { overflows = 0; jumps = 0 }

abbrev pub losses_in : Option Told → Losses
losses_in None = no_losses
losses_in (Some told) = told.losses

abbrev pub or_none : Option Details → Details
or_none None = details_of []
or_none (Some details) = details

abbrev pub details_in : Option Told → Details
details_in None = details_of []
details_in (Some told) = or_none told.messages.details

abbrev pub flows_in : Option Told → List Flow
flows_in None = []
flows_in (Some told) = told.messages.flows.items

abbrev pub slices_in : Option Told → List Slice
slices_in None = []
slices_in (Some told) = told.messages.slices.items

abbrev pub told_at : ToldChannels → ℕ → Option Told
told_at told channel = get nat_eq told.channels channel

-- ---- messages that are missing

abbrev pub loses : Losses → Bool
loses l = nat_lt 0 l.overflows || nat_lt 0 l.jumps

unfoldable pub losses_line : ℕ → Losses → Text
losses_line channel l = if loses l
    then codes "messages are missing from channel " ++ (decimal channel ++ (codes ": packets with the overflow flag "
    ++ (decimal l.overflows ++ (codes ", jumps of the sequence number " ++ (decimal l.jumps ++ codes "\n")))))
    else []

abbrev pub loss_of : ToldChannels → ChannelFigures → Text
loss_of told f = losses_line f.channel (losses_in (told_at told f.channel))

unfoldable pub losses_lines : ToldChannels → List ChannelFigures → Text
losses_lines told figures = flat_map (loss_of told) figures

-- ---- a channel's head

abbrev pub name_line : ℕ → Option Text → Text
name_line channel None = codes "channel " ++ (decimal channel ++ codes "\n")
name_line channel (Some name) = codes "channel " ++ (decimal channel ++ (codes " " ++ (name ++ codes "\n")))

abbrev pub known_span_line : ℕ → Text
known_span_line span = codes "  span      " ++ (time_text span ++ codes "\n")

abbrev pub long_span_line : Option ℕ → Text
long_span_line None = codes "  span      -\n"
long_span_line (Some span) = known_span_line span

-- messages a second, where any time passed
abbrev pub rate_words : Option ℕ → Text
rate_words None = []
rate_words (Some rate) = codes ", " ++ (hundredths_text rate ++ codes " a second")

abbrev pub long_counts : Traffic → Text
long_counts t = (codes "  messages  " ++ decimal t.messages)
    ++ (rate_words (rate_within t.messages (known_span t))
    ++ (codes "\n  words     " ++ (decimal t.words ++ codes "\n")))

unfoldable pub long_traffic_lines : Traffic → Option Between → Text
long_traffic_lines t times = long_span_line (known_span t) ++ (falls_line t ++ (times_line times
    ++ (long_counts t ++ load_line (known_load t))))

-- the least and the greatest gap, where there is one: a fall of stamps leaves none, and none is less than 20 ticks
abbrev pub known_gaps : Flow → Text
known_gaps f = codes "  gaps      " ++ (time_text f.least_gap ++ (codes " least, " ++ (time_text f.greatest_gap
    ++ codes " greatest\n")))

abbrev pub gaps_line : Flow → Bool → Text
gaps_line f timed = if nat_lt f.greatest_gap 1 || not timed then codes "  gaps      -\n" else known_gaps f

-- status words by their bits, each by its name in a script (MIL-STD-1553B 4.3.3.5.3)
abbrev pub replies_in_front : Replies → Text
replies_in_front r = codes "  status    " ++ (decimal r.words ++ (codes " words: message_error "
    ++ (decimal r.message_error ++ (codes ", instrumentation " ++ (decimal r.instrumentation
    ++ (codes ", service_request " ++ (decimal r.service_request ++ (codes ", reserved " ++ decimal r.reserved))))))))

abbrev pub replies_behind : Replies → Text
replies_behind r = codes ", broadcast " ++ (decimal r.broadcast ++ (codes ", busy " ++ (decimal r.busy
    ++ (codes ", subsystem " ++ (decimal r.subsystem ++ (codes ", control " ++ (decimal r.control
    ++ (codes ", terminal " ++ (decimal r.terminal ++ codes "\n")))))))))

unfoldable pub replies_line : Replies → Text
replies_line r = replies_in_front r ++ replies_behind r

unfoldable pub long_head : ChannelFigures → Details → Option Between → Text
long_head f d times = long_traffic_lines f.traffic times ++ (gaps_line d.flow (has_times f.traffic)
    ++ (errors_line f.errors ++ (retries_line f.retries ++ replies_line d.replies)))

unfoldable pub short_head : ChannelFigures → Option Between → Text
short_head f times = traffic_lines f.traffic times ++ (errors_line f.errors ++ retries_line f.retries)

-- ---- messages by terminal, direction and subaddress: an entry is these three as a number of 11 bits

abbrev pub address_in : ℕ → ℕ
address_in entry = entry / 64

abbrev pub direction_in : ℕ → Text
direction_in entry = if entry / 32 % 2 == 1 then codes "T" else codes "R"

abbrev pub subaddress_in : ℕ → ℕ
subaddress_in entry = entry % 32

-- 0 and 31 are those of mode commands (4.3.3.5.1.4)
abbrev pub subaddress_column : ℕ → Text
subaddress_column subaddress = if subaddress == 0 || subaddress == 31 then codes "     mode " ++ column 2 subaddress
    else column 12 subaddress

abbrev pub gap_columns : Flow → Bool → Text
gap_columns f timed = if nat_lt f.greatest_gap 1 || not timed then codes "             -                -"
    else codes " " ++ (column 11 (f.least_gap / 10) ++ (codes "." ++ (decimal (f.least_gap % 10) ++ (codes " "
    ++ tenths_column 14 f.greatest_gap))))

abbrev pub rate_column : Option ℕ → Text
rate_column None = codes "             -\n"
rate_column (Some rate) =
    codes " " ++ (column 10 (rate / 100) ++ (codes "." ++ (digits_text 2 (rate % 100) ++ codes "\n")))

unfoldable pub entry_line : Option ℕ → ℕ → Flow → Text
entry_line span entry f = address_column (address_in entry) ++ (word_column 5 (direction_in entry)
    ++ (subaddress_column (subaddress_in entry)
    ++ ((codes " " ++ (column 10 f.messages ++ (codes " " ++ column 10 f.errors)))
    ++ (gap_columns f (is_some span) ++ rate_column (rate_within f.messages span)))))

abbrev pub has_messages : Flow → Bool
has_messages f = nat_lt 0 f.messages

abbrev pub met_line : Option ℕ → ℕ → Flow → Text
met_line span entry f = if has_messages f then entry_line span entry f else []

abbrev pub entries_head : Text
entries_head =
    codes "  terminal  T/R  subaddress   messages     errors  least gap us  greatest gap us    per second\n"

unfoldable pub entry_lines : Option ℕ → List Flow → Text
entry_lines span fs = (if list_any has_messages fs then entries_head else []) ++ numbered (met_line span) 0 fs

-- ---- the load over time

abbrev pub or_zero : Option ℕ → ℕ
or_zero None = 0
or_zero (Some load) = load

abbrev pub slice_load : Slice → ℕ
slice_load s = or_zero (share_of s.busy (s.«end» - s.begin))

-- a mark for each two per cent, at most those of a full load
abbrev pub bar : ℕ → Text
bar load = replicate (min (load / 200) 50) 35

-- its begin in seconds, and its load
abbrev pub slice_head : Slice → Text
slice_head s = codes " " ++ (column 5 (s.begin / 10000000) ++ (codes "." ++ (digits_text 7 (s.begin % 10000000)
    ++ (codes " " ++ (column 3 (slice_load s / 100) ++ (codes "." ++ (digits_text 2 (slice_load s % 100)
    ++ codes " %  ")))))))

abbrev pub slice_line : Slice → Text
slice_line s = slice_head s ++ (bar (slice_load s) ++ codes "\n")

unfoldable pub slice_lines : List Slice → Text
slice_lines ss = codes "       seconds     load\n" ++ flat_map slice_line ss

-- in its place a line where stamps fall or times are not known, and nothing where no time passed
unfoldable pub load_lines : Traffic → List Slice → Text
load_lines t ss = if not (has_times t) then codes "  load      -\n"
    else if nat_lt 0 t.stretches.falls then codes "  load      over time is not told where stamps fall\n"
    else if kept_span t.stretches == 0 then []
    else slice_lines ss

-- ---- a channel

abbrev pub head_of : Bool → ChannelFigures → Details → Option Between → Text
head_of long f d times = if long then long_head f d times else short_head f times

abbrev pub table_of : Bool → ChannelFigures → List Flow → Text
table_of by_subaddress f flows =
    if by_subaddress then entry_lines (known_span f.traffic) flows else terminal_lines f.terminals

abbrev pub load_if : Bool → ChannelFigures → List Slice → Text
load_if asked f slices = if asked then load_lines f.traffic slices else []

-- behind the line of its name
unfoldable pub channel_lines : Shown → ChannelFigures → Option Told → Option Between → Text
channel_lines shown f told times = head_of shown.long f (details_in told) times
    ++ (table_of shown.by_subaddress f (flows_in told) ++ load_if shown.load f (slices_in told))
