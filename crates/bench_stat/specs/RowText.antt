-- The figures of channels as rows of comma-separated values (own choice).
use Rattle.std.specs.Prelude.{ℕ, Bool, nat_lt, if◌then◌else◌, List, [], ◌++◌, ◌==◌, ◌&&◌}
use Rattle.std.specs.Prelude.{codes, decimal, Option, None, Some}
use Rattle.std.specs.List.{flat_map}
use Rattle.text_lines.specs.Words.{Text}
use Rattle.bench_clock.specs.declared.clock.Mark.{Mark}
use Rattle.bench_stat.specs.declared.channels.ChannelFigures.{ChannelFigures}
use Rattle.bench_stat.specs.declared.details.Details.{Details}
use Rattle.bench_stat.specs.declared.errors.Errors.{Errors}
use Rattle.bench_stat.specs.declared.flows.Flow.{Flow}
use Rattle.bench_stat.specs.declared.losses.Losses.{Losses}
use Rattle.bench_stat.specs.declared.replies.Replies.{Replies}
use Rattle.bench_stat.specs.declared.shown.Shown.{Shown}
use Rattle.bench_stat.specs.declared.slices.Slice.{Slice}
use Rattle.bench_stat.specs.declared.following_packets.ToldChannels.{ToldChannels}
use Rattle.bench_stat.specs.declared.traffic.Traffic.{Traffic}
use Rattle.bench_stat.specs.ChannelText.{has_times, known_span, load_of, numbered, row_end, terminal_rows}
use Rattle.bench_stat.specs.PageText.{address_in, details_in, direction_in, flows_in, has_messages, losses_in}
use Rattle.bench_stat.specs.PageText.{slice_load, slices_in, subaddress_in, told_at}
use Rattle.bench_stat.specs.Stretches.{kept_span}
use Rattle.bench_stat.specs.Times.{Between, asked_times}
use Rattle.bench_stat.specs.UnitText.{day_text, hundredths_text, rate_of, tenths_text}

-- ---- figures, a row for each

unfoldable pub figure_row : ℕ → Text → Text → Text
figure_row channel name value = (decimal channel ++ (codes "," ++ (name ++ codes ","))) ++ (value ++ codes "\n")

abbrev pub count_row : ℕ → Text → ℕ → Text
count_row channel name count = figure_row channel name (decimal count)

-- hundredths and times in µs, empty where there is none
abbrev pub hundredths_field : Option ℕ → Text
hundredths_field None = []
hundredths_field (Some number) = hundredths_text number

abbrev pub ticks_field : Option ℕ → Text
ticks_field None = []
ticks_field (Some ticks) = tenths_text ticks

-- a figure of times, where they are known
abbrev pub if_timed : Bool → Text → Text
if_timed timed value = if timed then value else codes "-"

-- the least and the greatest gap, where there is one: a fall of stamps leaves none, and none is less than 20 ticks
abbrev pub gap_field : Flow → ℕ → Option ℕ
gap_field f gap = if nat_lt 0 f.greatest_gap then Some gap else None

abbrev pub time_rows : ℕ → Option Between → Text
time_rows channel None = []
time_rows channel (Some times) =
    figure_row channel (codes "first_time") (day_text [] times.0)
    ++ figure_row channel (codes "last_time") (day_text [] times.1)

unfoldable pub traffic_rows : ℕ → Traffic → Option Between → Text
traffic_rows channel t times =
    figure_row channel (codes "span_us") (if_timed (has_times t) (tenths_text (kept_span t.stretches)))
    ++ (time_rows channel times
    ++ (count_row channel (codes "messages") t.messages
    ++ (count_row channel (codes "words") t.words
    ++ (figure_row channel (codes "messages_per_second")
    (if_timed (has_times t) (hundredths_field (rate_of t.messages (kept_span t.stretches))))
    ++ figure_row channel (codes "bus_load_percent") (if_timed (has_times t) (hundredths_field (load_of t)))))))

abbrev pub gap_row : ℕ → Text → Bool → Option ℕ → Text
gap_row channel name timed gap = figure_row channel name (if_timed timed (ticks_field gap))

unfoldable pub gap_rows : ℕ → Bool → Flow → Text
gap_rows channel timed f = gap_row channel (codes "least_gap_us") timed (gap_field f f.least_gap)
    ++ gap_row channel (codes "greatest_gap_us") timed (gap_field f f.greatest_gap)

unfoldable pub error_rows : ℕ → Errors → ℕ → Text
error_rows channel e retries =
    count_row channel (codes "errors") e.messages
    ++ (count_row channel (codes "errors_response") e.response
    ++ (count_row channel (codes "errors_word_count") e.word_count
    ++ (count_row channel (codes "errors_sync") e.sync
    ++ (count_row channel (codes "errors_unsound_word") e.unsound
    ++ (count_row channel (codes "errors_other") e.other
    ++ count_row channel (codes "retries") retries)))))

-- status words by their bits, each by its name in a script (MIL-STD-1553B 4.3.3.5.3)
unfoldable pub reply_rows : ℕ → Replies → Text
reply_rows channel r =
    count_row channel (codes "status_words") r.words
    ++ (count_row channel (codes "status_message_error") r.message_error
    ++ (count_row channel (codes "status_instrumentation") r.instrumentation
    ++ (count_row channel (codes "status_service_request") r.service_request
    ++ (count_row channel (codes "status_reserved") r.reserved
    ++ (count_row channel (codes "status_broadcast") r.broadcast
    ++ (count_row channel (codes "status_busy") r.busy
    ++ (count_row channel (codes "status_subsystem") r.subsystem
    ++ (count_row channel (codes "status_control") r.control
    ++ count_row channel (codes "status_terminal") r.terminal))))))))

unfoldable pub loss_rows : ℕ → Losses → Text
loss_rows channel l = count_row channel (codes "overflow_packets") l.overflows
    ++ count_row channel (codes "sequence_jumps") l.jumps

unfoldable pub figure_rows : ChannelFigures → Losses → Details → Option Between → Text
figure_rows f l d times = loss_rows f.channel l ++ (traffic_rows f.channel f.traffic times
    ++ (gap_rows f.channel (has_times f.traffic) d.flow ++ (error_rows f.channel f.errors f.retries
    ++ reply_rows f.channel d.replies)))

-- ---- messages by terminal, direction and subaddress

abbrev pub entry_gaps : Flow → Text
entry_gaps f = if nat_lt 0 f.greatest_gap
    then tenths_text f.least_gap ++ (codes "," ++ (tenths_text f.greatest_gap ++ codes ","))
    else codes ",,"

abbrev pub entry_times : Option ℕ → Flow → Text
entry_times None f = codes "-,-,-"
entry_times (Some span) f = entry_gaps f ++ hundredths_field (rate_of f.messages span)

unfoldable pub entry_row : ℕ → Option ℕ → ℕ → Flow → Text
entry_row channel span entry f =
    (decimal channel ++ (codes "," ++ (decimal (address_in entry) ++ (codes "," ++ (direction_in entry ++ (codes ","
    ++ (decimal (subaddress_in entry) ++ (codes "," ++ (decimal f.messages ++ (codes "," ++ (decimal f.errors
    ++ codes ","))))))))))) ++ entry_times span f

abbrev pub met_row : ℕ → Option ℕ → Option Between → ℕ → Flow → Text
met_row channel span times entry f = if has_messages f then entry_row channel span entry f ++ row_end times else []

unfoldable pub entry_rows : ChannelFigures → List Flow → Option Between → Text
entry_rows f flows times = numbered (met_row f.channel (known_span f.traffic) times) 0 flows

-- ---- the load over time

unfoldable pub slice_row : ℕ → Slice → Text
slice_row channel s = (decimal channel ++ codes ",") ++ (tenths_text s.begin ++ (codes "," ++ (tenths_text s.«end»
    ++ (codes "," ++ (hundredths_text (slice_load s) ++ codes "\n")))))

-- the load over time is told: it has a span, and no stamp falls
abbrev pub has_slices : Traffic → Bool
has_slices t = has_times t && ((t.stretches.falls == 0) && nat_lt 0 (kept_span t.stretches))

unfoldable pub slice_rows : ChannelFigures → List Slice → Text
slice_rows f ss = if has_slices f.traffic then flat_map (slice_row f.channel) ss else []

-- ---- a recording

abbrev pub figures_rows_of : Shown → List Mark → ToldChannels → ChannelFigures → Text
figures_rows_of shown clock told f = figure_rows f (losses_in (told_at told f.channel))
    (details_in (told_at told f.channel)) (asked_times shown.time clock f.traffic)

unfoldable pub all_figure_rows : Shown → List Mark → ToldChannels → List ChannelFigures → Text
all_figure_rows shown clock told fs = flat_map (figures_rows_of shown clock told) fs

unfoldable pub long_table : Shown → List Mark → ToldChannels → List ChannelFigures → Text
long_table shown clock told fs =
    codes "channel,figure,value\n" ++ (all_figure_rows shown clock told fs ++ codes "\n")

abbrev pub figures_table : Shown → List Mark → ToldChannels → List ChannelFigures → Text
figures_table shown clock told fs = if shown.long then long_table shown clock told fs else []

abbrev pub names_row : Shown → Text
names_row shown = (if shown.by_subaddress
    then codes "channel,terminal,direction,subaddress,messages,errors,least_gap_us,greatest_gap_us,per_second"
    else codes "channel,terminal,receive,transmit,mode,errors,responses,least_us,mean_us,greatest_us")
    ++ ((if shown.time then codes ",first_time,last_time" else []) ++ codes "\n")

abbrev pub channel_rows : Shown → List Mark → ToldChannels → ChannelFigures → Text
channel_rows shown clock told f = if shown.by_subaddress
    then entry_rows f (flows_in (told_at told f.channel)) (asked_times shown.time clock f.traffic)
    else terminal_rows f (asked_times shown.time clock f.traffic)

unfoldable pub main_table : Shown → List Mark → ToldChannels → List ChannelFigures → Text
main_table shown clock told fs = names_row shown ++ flat_map (channel_rows shown clock told) fs

abbrev pub slices_of : ToldChannels → ChannelFigures → Text
slices_of told f = slice_rows f (slices_in (told_at told f.channel))

unfoldable pub all_slices : ToldChannels → List ChannelFigures → Text
all_slices told fs = codes "\nchannel,begin_us,end_us,load_percent\n" ++ flat_map (slices_of told) fs

abbrev pub load_table : Shown → ToldChannels → List ChannelFigures → Text
load_table shown told fs = if shown.load then all_slices told fs else []

unfoldable pub tables_text : Shown → List Mark → ToldChannels → List ChannelFigures → Text
tables_text shown clock told fs =
    figures_table shown clock told fs ++ (main_table shown clock told fs ++ load_table shown told fs)
