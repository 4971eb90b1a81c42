-- The block status word of a finished talk, and its outcome (IRIG 106-17 Chapter 11, MIL-STD-1553 bus data packets,
-- Format 1, block status word; which errors set which bit, and the outcome, are own choices).
use Rattle.std.specs.Prelude.{ℕ, ◌+◌, ◌==◌, nat_lt, bit_and, bit_or, if◌then◌else◌, Bool, true, false, ◌&&◌, ◌||◌, not}
use Rattle.std.specs.Prelude.{List, [], ◌∷◌, length, Option, Some, None}
use Rattle.std.specs.Option.{is_none, is_some}
use Rattle.mil_word.specs.declared.Line.{Line}
use Rattle.mil_word.specs.declared.Line.TheVariants.{A, B}
use Rattle.mil_word.specs.declared.Word.{Word}
use Rattle.mil_word.specs.Words.{is_command_sync}
use Rattle.mil_word.specs.Fields.{address_of, has_message_error, has_busy}
use Rattle.mil_word.specs.Timing.{response_time_out}
use Rattle.mil_status.specs.Block as table
use Rattle.mil_status.specs.Status.{all_status_bits}
use Rattle.mil_message.specs.declared.forms.Due.{Due}
use Rattle.mil_message.specs.declared.forms.Form.{Form}
use Rattle.mil_message.specs.Forms.{second_command, replies_due, controller_words}
use Rattle.mil_bus.specs.declared.talks.Sent.{Sent}
use Rattle.mil_bus.specs.declared.counts.Came.{Came}
use Rattle.mil_bus.specs.declared.counts.TalkCounts.{TalkCounts}
use Rattle.mil_bus.specs.declared.outcomes.Outcome.{Outcome}
use Rattle.mil_bus.specs.Counts.{seen_of}

-- the reply that is due first, which is run 1, and the one that is due then, which is run 2
abbrev pub first_due : List Due → Option Due
first_due [] = None
first_due (due ∷ more) = Some due

abbrev pub second_due : List Due → Option Due
second_due [] = None
second_due (due ∷ more) = first_due more

-- a due reply that did not come, or whose response time is over the 14 µs that the controller waits (4.3.3.9)
abbrev pub is_late : Option Due → Option Came → Bool
is_late None came = false
is_late (Some due) None = true
is_late (Some due) (Some came) = nat_lt response_time_out came.gap

-- a status word whose message error or busy bit is set
abbrev pub is_excuse : Option Word → Bool
is_excuse None = false
is_excuse (Some word) = is_command_sync word.sync && (has_message_error word.value || has_busy word.value)

-- a due reply that came with another number of words than due, but for such a status alone
abbrev pub is_miscounted : Option Due → Option Came → Bool
is_miscounted None came = false
is_miscounted (Some due) None = false
is_miscounted (Some due) (Some came) = not (came.count == due.words + 1)
    && not (came.count == 1 && is_excuse came.first)

abbrev pub is_from_other : ℕ → Option Word → Bool
is_from_other address None = false
is_from_other address (Some word) = is_command_sync word.sync && not (address_of word.value == address)

-- a due reply whose first word is sound, with command sync and another address
abbrev pub has_other_address : Option Due → Option Came → Bool
has_other_address None came = false
has_other_address (Some due) None = false
has_other_address (Some due) (Some came) = is_from_other due.address came.first

-- a bit, where it is on
abbrev pub bit_if : Bool → ℕ → ℕ
bit_if on bit = if on then bit else 0

abbrev pub is_line_b : Line → Bool
is_line_b A = false
is_line_b B = true

-- messages between terminals
abbrev pub is_transfer : Form → Bool
is_transfer form = is_some (second_command form)

-- fewer replies than due, or a late one
abbrev pub has_response_time_out : Form → TalkCounts → Bool
has_response_time_out form seen =
    is_late (first_due (replies_due form)) seen.one || is_late (second_due (replies_due form)) seen.two

-- the controller or a due reply has another number of words
abbrev pub has_word_count_error : Form → TalkCounts → Bool
has_word_count_error form seen =
    not (seen.controllers == length (controller_words form))
    || is_miscounted (first_due (replies_due form)) seen.one || is_miscounted (second_due (replies_due form)) seen.two

-- a word of the controller's run or of a due reply, but the first, that does not follow the one before at once
-- (4.4.1.2)
abbrev pub has_format_error : TalkCounts → Bool
has_format_error seen = seen.paused

-- any error
abbrev pub has_error : Form → TalkCounts → Bool
has_error form seen =
    has_response_time_out form seen || has_word_count_error form seen || has_format_error seen
    || seen.other_sync || seen.unsound
    || has_other_address (first_due (replies_due form)) seen.one
    || has_other_address (second_due (replies_due form)) seen.two
    || seen.beyond

-- the bits of the errors, of the line and of the kind of message
abbrev pub block_of : Line → Form → TalkCounts → ℕ
block_of line form seen =
    bit_if (is_line_b line) table.line_b + bit_if (has_error form seen) table.message_error
    + bit_if (is_transfer form) table.terminal_to_terminal + bit_if (has_format_error seen) table.format_error
    + bit_if (has_response_time_out form seen) table.response_timeout
    + bit_if (has_word_count_error form seen) table.word_count_error + bit_if seen.other_sync table.sync_type_error
    + bit_if seen.unsound table.invalid_word_error

-- the status bits of a word (4.3.3.5.3)
abbrev pub status_bits : Option Word → ℕ
status_bits None = 0
status_bits (Some word) = if is_command_sync word.sync then bit_and word.value all_status_bits else 0

-- those of a due reply that came
abbrev pub came_bits : Option Due → Option Came → ℕ
came_bits (Some due) (Some came) = status_bits came.first
came_bits (Some due) None = 0
came_bits None came = 0

-- whether a reply is due and none came
abbrev pub is_silent : Form → TalkCounts → Bool
is_silent form seen = is_some (first_due (replies_due form)) && is_none seen.one

-- the outcome of a talk: failed where there is any error, and the status bits of all due replies together
unfoldable pub outcome_of : Form → List Sent → Outcome
outcome_of form sent = record {
  failed = has_error form (seen_of form sent);
  silent = is_silent form (seen_of form sent);
  bits = bit_or (came_bits (first_due (replies_due form)) (seen_of form sent).one)
      (came_bits (second_due (replies_due form)) (seen_of form sent).two);
}
