-- A second command in a recorded message, which supersedes the first (MIL-STD-1553B 4.4.3.2). A record does not say
-- which sync a word had, so such a command is told by its answer (own choice).
use Rattle.std.specs.Prelude.{◌≡◌, ℕ, ◌+◌, ◌-◌, ◌<◌, ◌≤◌, ◌==◌, Bool, true, false, not, ◌&&◌, ◌||◌, nat_lt}
use Rattle.std.specs.Prelude.{if◌then◌else◌, find, Option, None}
use Rattle.std.specs.List.{range_with_len}
use Rattle.mil_word.specs.Fields.{address_of, count_of, code_of, is_mode, is_transmit, is_broadcast, has_bit}
use Rattle.mil_word.specs.Fields.{has_message_error, has_instrumentation, has_busy}
use Rattle.mil_mode.specs.Table.{is_known, data_word_count}
use Rattle.ch11_layout.specs.Stamps.{Recorded}
use Rattle.ch11_layout.specs.BlockStatus.{has_word_count_error, has_sync_type_error}
use Rattle.ch11_layout.specs.Layouts.{size_of, word_of, first_word, commands_in, data_start, first_gap, second_gap}

-- how many data words go with a command (4.3.3.5.1.5, 4.3.3.5.1.7)
abbrev pub data_words_of : ℕ → ℕ
data_words_of command =
    if is_mode command then data_word_count (is_transmit command) (code_of command) else count_of command

-- a command that one terminal answers: no mode command but one that the standard has
abbrev pub is_known_mode : ℕ → Bool
is_known_mode command = is_known (is_transmit command) (code_of command)

abbrev pub is_answerable : ℕ → Bool
is_answerable command = not (is_broadcast command) && (not (is_mode command) || is_known_mode command)

-- the word at a place, read as a command, and the status word that answers it: right behind it where the terminal
-- transmits, else behind the data words, the last one
abbrev pub command_at : ℕ → Recorded → ℕ
command_at place m = word_of m.bytes place

abbrev pub answer_place : ℕ → Recorded → ℕ
answer_place place m = if is_transmit (command_at place m) then place + 1 else size_of m - 1

abbrev pub answer_at : ℕ → Recorded → ℕ
answer_at place m = word_of m.bytes (answer_place place m)

-- behind it stand the status word and the data words that go with the command, and nothing else; a status word that
-- tells of a message error or of a busy terminal may stand alone
abbrev pub is_whole : ℕ → Recorded → Bool
is_whole place m = size_of m == place + 2 + data_words_of (command_at place m)

abbrev pub is_excused : ℕ → Recorded → Bool
is_excused place m =
    is_transmit (command_at place m)
    && (size_of m == place + 2 && (has_message_error (answer_at place m) || has_busy (answer_at place m)))

abbrev pub is_answered : ℕ → Recorded → Bool
is_answered place m =
    nat_lt (place + 1) (size_of m)
    && (is_answerable (command_at place m)
    && (address_of (answer_at place m) == address_of (command_at place m) && (is_whole place m || is_excused place m)))

-- one reply came, and words are not as they are due by number or sync
abbrev pub is_suspect : Recorded → Bool
is_suspect m =
    (has_word_count_error m.block || has_sync_type_error m.block) && (not (first_gap m == 0) && second_gap m == 0)

-- the word right behind the commands, where a status word is due, is one that the terminal that is due could give
abbrev pub due_address : Recorded → ℕ
due_address m = address_of (word_of m.bytes (commands_in m - 1))

abbrev pub has_reserved : ℕ → Bool
has_reserved status = has_bit 7 status || (has_bit 6 status || has_bit 5 status)

abbrev pub could_be_of : ℕ → ℕ → Bool
could_be_of address status = address_of status == address && not (has_instrumentation status || has_reserved status)

abbrev pub has_front_word : Recorded → Bool
has_front_word m = nat_lt (commands_in m) (data_start m)

abbrev pub has_own_status : Recorded → Bool
has_own_status m = has_front_word m && could_be_of (due_address m) (word_of m.bytes (commands_in m))

-- how many words the controller has to send behind the commands
abbrev pub controller_words : Recorded → ℕ
controller_words m =
    if commands_in m == 2 || is_transmit (first_word m) then 0 else data_words_of (first_word m)

-- a place is the first one from one up to another, that one included, whose word is answered
pub record IsFirstAnswered (from to : ℕ) (m : Recorded) (place : ℕ) : Type 0 where
  pub low : from ≤ place
  pub high : place ≤ to
  pub answered : is_answered place m ≡ true
  pub first : (earlier : ℕ) → from ≤ earlier → earlier < place → is_answered earlier m ≡ false

-- no word of these is answered
abbrev pub IsAnsweredNowhere : ℕ → ℕ → Recorded → Type 0
IsAnsweredNowhere from to m = (place : ℕ) → from ≤ place → place ≤ to → is_answered place m ≡ false

-- a message may have a second command
abbrev pub may_have_second : Recorded → Bool
may_have_second m = is_suspect m && not (has_own_status m)

-- the first word that is answered where the controller's words stand
unfoldable pub second_among : Recorded → Option ℕ
second_among m = find (λ place. is_answered place m) (range_with_len (commands_in m) (controller_words m + 1))

-- the place of the second command
unfoldable pub second_place : Recorded → Option ℕ
second_place m = if may_have_second m then second_among m else None
