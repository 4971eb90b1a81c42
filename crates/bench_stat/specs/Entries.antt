-- The messages of a terminal, a direction and a subaddress (own choice): a command word without its last field has
-- these three (4.3.3.5.1), as a number of 11 bits.
use Rattle.std.specs.Prelude.{◌≡◌, ◌<◌, ℕ, ◌/◌, ◌^◌, ◌==◌, Bool, false, not, ◌&&◌, ◌||◌, if◌then◌else◌, List, []}
use Rattle.std.specs.Prelude.{length, Option, None, Some, slice_index_or, slice_set}
use Rattle.std.specs.List.{filter}
use Rattle.ch11_layout.specs.Stamps.{Recorded}
use Rattle.bench_stat.specs.declared.flows.Flow.{Flow}
use Rattle.bench_stat.specs.declared.sendings.Sending.{Sending}
use Rattle.bench_stat.specs.Sendings.{is_failed, sending_of}
use Rattle.bench_stat.specs.Flows.{flow_by, flow_of, with_message_by}

abbrev pub entry_of : ℕ → ℕ
entry_of command = command / 2 ^ 5

abbrev pub is_of : ℕ → Option ℕ → Bool
is_of entry None = false
is_of entry (Some command) = entry_of command == entry

-- both commands are there and of one entry
abbrev pub is_same : Option ℕ → Option ℕ → Bool
is_same (Some first) (Some second) = entry_of first == entry_of second
is_same (Some first) None = false
is_same None second = false

-- one of the message's commands is of the entry
abbrev pub is_of_entry : ℕ → Recorded → Bool
is_of_entry entry m = is_of entry (sending_of m).first || is_of entry (sending_of m).second

-- the command to the terminal that an error belongs to
abbrev pub command_at_fault : Recorded → Option ℕ
command_at_fault m = if (sending_of m).sender_failed then (sending_of m).second else (sending_of m).first

-- the message had an error, which is of the entry
abbrev pub is_error_of : ℕ → Recorded → Bool
is_error_of entry m = is_failed m && is_of entry (command_at_fault m)

abbrev pub entry_flow : ℕ → List Recorded → Flow
entry_flow entry history = flow_by (is_error_of entry) (filter (is_of_entry entry) history)

-- a flow for each entry
pub record AreEntries (history : List Recorded) (flows : List Flow) : Type 0 where
  pub many : length flows ≡ 2048
  pub each : (entry : ℕ) → entry < 2048 → slice_index_or flows entry (flow_of []) ≡ entry_flow entry history

-- the error is for the entry of the first command: it is no other terminal's, or both commands are of one entry
abbrev pub is_first_failed : Sending → Bool
is_first_failed s = s.failed && (is_same s.first s.second || not s.sender_failed)

-- one more message for the entry of a command, where there is one, which had this error
abbrev pub with_choice : Option ℕ → Bool → Recorded → List Flow → List Flow
with_choice None failed m flows = flows
with_choice (Some command) failed m flows = slice_set flows (entry_of command)
    (with_message_by failed m (slice_index_or flows (entry_of command) (flow_of [])))
