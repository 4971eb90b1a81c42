-- What is counted of a channel's messages, which stand newest first (own choice). Counts and sums go as far as 64 bits
-- count them.
use Rattle.std.specs.Prelude.{ℕ, ◌+◌, ◌*◌, ◌/◌, ◌-◌, ◌^◌, ◌==◌, Bool, true, false, not, ◌&&◌, ◌||◌}
use Rattle.std.specs.Prelude.{if◌then◌else◌, List, [], ◌∷◌, length, map, Option, None, Some}
use Rattle.std.specs.List.{sum_by, count_by, filter, list_any, range_with_len}
use Rattle.mil_word.specs.Fields.{field_values}
use Rattle.ch11_header.specs.declared.header.Header.{Header}
use Rattle.ch11_layout.specs.Stamps.{Recorded}
use Rattle.ch11_layout.specs.declared.stamps.StampKind.{StampKind}
use Rattle.ch11_layout.specs.declared.stamps.StampKind.TheVariants.{Counter, TimeOfDay, Unknown}
use Rattle.ch11_reader.specs.Contents.{capped}
use Rattle.ch11_reader.specs.Recording.{Found, holds_messages}
use Rattle.bench_select.specs.declared.selection.Selection.{Selection}
use Rattle.bench_select.specs.Selectors.{is_chosen}
use Rattle.bench_stat.specs.Chosen.{history_of}
use Rattle.ch11_layout.specs.BlockStatus.{has_response_timeout, has_word_count_error, has_sync_type_error}
use Rattle.ch11_layout.specs.BlockStatus.{has_invalid_word_error}
use Rattle.ch11_layout.specs.Layouts.{size_of}
use Rattle.bench_stat.specs.declared.calls.Call.{Call}
use Rattle.bench_stat.specs.declared.calls.CallKind.TheVariants.{Receive, Transmit, Mode}
use Rattle.bench_stat.specs.declared.terminals.TerminalFigures.{TerminalFigures}
use Rattle.bench_stat.specs.declared.traffic.Traffic.{Traffic}
use Rattle.bench_stat.specs.declared.errors.Errors.{Errors}
use Rattle.bench_stat.specs.declared.channels.ChannelFigures.{ChannelFigures}
use Rattle.bench_stat.specs.Sendings.{calls, is_failed, is_retry_behind, latest, sending_of}
use Rattle.bench_stat.specs.Stretches.{span, stretches_of}
pub use Rattle.bench_stat.specs.Measures.{one_if, duration, end_of, least, greatest}

-- what the stamps of messages are; where they are of more than one kind, no times are known
abbrev pub joined : Option StampKind → StampKind → StampKind
joined None kind = kind
joined (Some Counter) Counter = Counter
joined (Some Counter) TimeOfDay = Unknown
joined (Some Counter) Unknown = Unknown
joined (Some TimeOfDay) Counter = Unknown
joined (Some TimeOfDay) TimeOfDay = TimeOfDay
joined (Some TimeOfDay) Unknown = Unknown
joined (Some Unknown) kind = Unknown

abbrev pub stamps_of : List Recorded → Option StampKind
stamps_of [] = None
stamps_of (m ∷ earlier) = Some (joined (stamps_of earlier) m.kind)

-- messages, words and times of a channel: from the least stamp to the greatest one and to the greatest end of a
-- message, and its stretches
abbrev pub traffic_of : List Recorded → Traffic
traffic_of history = record {
  messages = capped (length history);
  words = capped (sum_by size_of history);
  busy = capped (sum_by duration history);
  stamps = stamps_of history;
  begin = least (2 ^ 64 - 1) (map (λ (m : Recorded). m.stamp) history);
  last = greatest (map (λ (m : Recorded). m.stamp) history);
  «end» = greatest (map end_of history);
  stretches = stretches_of history;
}

-- the share of a time in which the bus was busy, in hundredths of a per cent, rounded down; none of no time
abbrev pub share_of : ℕ → ℕ → Option ℕ
share_of busy time = if time == 0 then None else Some (capped (busy * 10000 / time))

-- that of the span
abbrev pub load : List Recorded → Option ℕ
load history = share_of (capped (sum_by duration history)) (span history)

-- errors by their kind, one message under each kind that its block status word names
abbrev pub is_silent : Recorded → Bool
is_silent m = has_response_timeout m.block

abbrev pub is_miscounted : Recorded → Bool
is_miscounted m = has_word_count_error m.block

abbrev pub is_of_other_sync : Recorded → Bool
is_of_other_sync m = has_sync_type_error m.block

abbrev pub is_unsound : Recorded → Bool
is_unsound m = has_invalid_word_error m.block

-- an error of none of these kinds
abbrev pub is_otherwise_failed : Recorded → Bool
is_otherwise_failed m = is_failed m && not (is_silent m || (is_miscounted m || (is_of_other_sync m || is_unsound m)))

abbrev pub errors_of : List Recorded → Errors
errors_of history = record {
  messages = capped (count_by is_failed history);
  response = capped (count_by is_silent history);
  word_count = capped (count_by is_miscounted history);
  sync = capped (count_by is_of_other_sync history);
  unsound = capped (count_by is_unsound history);
  other = capped (count_by is_otherwise_failed history);
}

-- the calls of a kind
abbrev pub is_receive_call : Call → Bool
is_receive_call c = elim c.kind [ Receive ↦ true | Transmit ↦ false | Mode ↦ false ]

abbrev pub is_transmit_call : Call → Bool
is_transmit_call c = elim c.kind [ Receive ↦ false | Transmit ↦ true | Mode ↦ false ]

abbrev pub is_mode_call : Call → Bool
is_mode_call c = elim c.kind [ Receive ↦ false | Transmit ↦ false | Mode ↦ true ]

-- the response times, where there was a response
abbrev pub responses : List Call → List ℕ
responses [] = []
responses (c ∷ cs) = if c.response == 0 then responses cs else c.response ∷ responses cs

-- the figures of a terminal that was called so
abbrev pub figures_of : List Call → TerminalFigures
figures_of cs = record {
  receive = capped (count_by is_receive_call cs);
  transmit = capped (count_by is_transmit_call cs);
  mode = capped (count_by is_mode_call cs);
  errors = capped (count_by (λ (c : Call). c.failed) cs);
  responses = capped (length (responses cs));
  total = capped (sum_by (λ n. n) (responses cs));
  least = least 255 (responses cs);
  greatest = greatest (responses cs);
}

-- the calls of a terminal address
abbrev pub calls_to : ℕ → List Call → List Call
calls_to address cs = filter (λ (c : Call). c.address == address) cs

-- the figures of each address, 0 to 31
unfoldable pub terminals_of : List Call → List TerminalFigures
terminals_of cs = map (λ address. figures_of (calls_to address cs)) (range_with_len 0 field_values)

-- how many messages are a retry on the other line of the one before
abbrev pub retries : List Recorded → ℕ
retries [] = 0
retries (m ∷ earlier) = one_if (is_retry_behind (latest earlier) (sending_of m)) + retries earlier

abbrev pub figures_of_channel : ℕ → List Recorded → ChannelFigures
figures_of_channel channel history = record {
  channel = channel;
  traffic = traffic_of history;
  errors = errors_of history;
  retries = capped (retries history);
  terminals = terminals_of (calls history);
}

-- a packet of MIL-STD-1553 messages is of the channel
abbrev pub has_channel : ℕ → List Header → Bool
has_channel channel hs = list_any (λ (h : Header). holds_messages h && (h.channel == channel)) hs

abbrev pub headers : List Found → List Header
headers ps = map (λ (p : Found). p.header) ps

-- the selection is of the channel, and there are such packets of it
abbrev pub is_listed : Selection → List Header → ℕ → Bool
is_listed s hs channel = is_chosen s.channel channel && has_channel channel hs

-- these channels below a number, in rising order
unfoldable pub channels_below : Selection → ℕ → List Header → List ℕ
channels_below s bound hs = filter (is_listed s hs) (range_with_len 0 bound)

-- the figures of these channels
abbrev pub figures_among : Selection → List ℕ → List Found → List ChannelFigures
figures_among s channels ps = map (λ channel. figures_of_channel channel (history_of s ps channel)) channels

-- the figures of the channels of a recording that a selection is of, in rising order of their numbers
abbrev pub statistics : Selection → List Found → List ChannelFigures
statistics s ps = figures_among s (channels_below s 65536 (headers ps)) ps
