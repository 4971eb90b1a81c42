-- How a recorded message was sent, and which terminals its commands call (IRIG 106-17 Chapter 11, MIL-STD-1553 bus
-- data packets, Format 1: block status word, gap times word; MIL-STD-1553B 4.3.3.5.1).
use Rattle.std.specs.Prelude.{ℕ, ◌==◌, Bool, true, false, not, ◌&&◌, nat_lt, if◌then◌else◌, List, [], ◌∷◌, Option, None}
use Rattle.std.specs.Prelude.{Some}
use Rattle.std.specs.List.{flat_map}
use Rattle.mil_word.specs.Fields.{address_of, is_mode, is_transmit}
use Rattle.ch11_layout.specs.Stamps.{Recorded}
use Rattle.ch11_layout.specs.BlockStatus.{is_on_line_b, has_error}
use Rattle.ch11_layout.specs.Layouts.{size_of, word_of, is_between, first_gap, second_gap}
use Rattle.bench_stat.specs.declared.sendings.Sending.{Sending}
use Rattle.bench_stat.specs.Senders.{is_senders}
use Rattle.bench_stat.specs.declared.calls.Call.{Call}
use Rattle.bench_stat.specs.declared.calls.CallKind.{CallKind}
use Rattle.bench_stat.specs.declared.calls.CallKind.TheVariants.{Receive, Transmit, Mode}

-- the bus word at a place, if there is one
abbrev pub word_at : ℕ → Recorded → Option ℕ
word_at place m = if nat_lt place (size_of m) then Some (word_of m.bytes place) else None

-- the message had an error
abbrev pub is_failed : Recorded → Bool
is_failed m = has_error m.block

-- line, error, whose it is, and command words of a message
abbrev pub sending_of : Recorded → Sending
sending_of m = record {
  line_b = is_on_line_b m.block;
  failed = is_failed m;
  sender_failed = is_failed m && is_senders m;
  first = word_at 0 m;
  second = if is_between m then word_at 1 m else None;
}

-- what a command word asks of the terminal that it calls
abbrev pub kind_of : ℕ → CallKind
kind_of command = if is_mode command then Mode else if is_transmit command then Transmit else Receive

-- a command word with the error that belongs to the terminal that it calls, and this one's response time
abbrev pub call_by : ℕ → Bool → ℕ → Call
call_by command failed response = record {
  address = address_of command;
  kind = kind_of command;
  failed = failed;
  response = response;
}

-- the calls of a message that was sent so, the latest first: where there are two, the second calls the sender, whose
-- reply is the first, and the error is of one of them
abbrev pub calls_by : Sending → ℕ → ℕ → Option ℕ → Option ℕ → List Call
calls_by s one two None second = []
calls_by s one two (Some first) None = call_by first s.failed one ∷ []
calls_by s one two (Some first) (Some second) =
    call_by second s.sender_failed one ∷ call_by first (s.failed && not s.sender_failed) two ∷ []

abbrev pub calls_sent : Sending → ℕ → ℕ → List Call
calls_sent s one two = calls_by s one two s.first s.second

abbrev pub calls_of : Recorded → List Call
calls_of m = calls_sent (sending_of m) (first_gap m) (second_gap m)

-- all calls of a channel's messages; both stand newest first
abbrev pub calls : List Recorded → List Call
calls history = flat_map calls_of history

-- both are absent, or the same word
abbrev pub is_same_word : Option ℕ → Option ℕ → Bool
is_same_word None None = true
is_same_word (Some a) (Some b) = a == b
is_same_word None (Some b) = false
is_same_word (Some a) None = false

-- a retry on the other line: the message before it had an error, the commands are the same, the line is the other one
abbrev pub is_retry : Sending → Sending → Bool
is_retry before now =
    before.failed
    && (not (if before.line_b then now.line_b else not now.line_b)
    && (is_same_word before.first now.first && is_same_word before.second now.second))

abbrev pub is_retry_behind : Option Sending → Sending → Bool
is_retry_behind None now = false
is_retry_behind (Some before) now = is_retry before now

-- how the latest message was sent
abbrev pub latest : List Recorded → Option Sending
latest [] = None
latest (m ∷ earlier) = Some (sending_of m)
