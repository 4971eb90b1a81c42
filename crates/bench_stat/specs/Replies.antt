-- The status words of messages, counted by their bits (MIL-STD-1553B 4.3.3.5.3).
use Rattle.std.specs.Prelude.{ℕ, ◌+◌, Bool, ◌||◌, nat_lt, if◌then◌else◌, List, [], ◌∷◌, ◌++◌, length}
use Rattle.std.specs.List.{count_by, flat_map}
use Rattle.mil_word.specs.Fields.{has_bit, has_message_error, has_instrumentation, has_service_request}
use Rattle.mil_word.specs.Fields.{has_broadcast_received, has_busy, has_subsystem_flag, has_control_acceptance}
use Rattle.mil_word.specs.Fields.{has_terminal_flag}
use Rattle.ch11_layout.specs.Stamps.{Recorded}
use Rattle.ch11_layout.specs.Layouts.{size_of, word_of, commands_in, data_start, data_end}
use Rattle.bench_stat.specs.declared.replies.Replies.{Replies}
use Rattle.ch11_reader.specs.Contents.{capped}
use Rattle.bench_stat.specs.Figures.{one_if}

-- one of the three reserved bits (4.3.3.5.3.6)
abbrev pub has_reserved : ℕ → Bool
has_reserved status = has_bit 7 status || (has_bit 6 status || has_bit 5 status)

-- the word at a place, if that is before another
abbrev pub word_before : Recorded → ℕ → ℕ → List ℕ
word_before m place end = if nat_lt place end then word_of m.bytes place ∷ [] else []

-- the status words of a message, behind the data words and in front of them; newest first, as those of all messages
abbrev pub status_words : Recorded → List ℕ
status_words m = word_before m (data_end m) (size_of m) ++ word_before m (commands_in m) (data_start m)

abbrev pub all_status_words : List Recorded → List ℕ
all_status_words history = flat_map status_words history

abbrev pub replies_with : List ℕ → Replies
replies_with words = record {
  words = capped (length words);
  message_error = capped (count_by has_message_error words);
  instrumentation = capped (count_by has_instrumentation words);
  service_request = capped (count_by has_service_request words);
  reserved = capped (count_by has_reserved words);
  broadcast = capped (count_by has_broadcast_received words);
  busy = capped (count_by has_busy words);
  subsystem = capped (count_by has_subsystem_flag words);
  control = capped (count_by has_control_acceptance words);
  terminal = capped (count_by has_terminal_flag words);
}

abbrev pub replies_of : List Recorded → Replies
replies_of history = replies_with (all_status_words history)

-- one more status word
abbrev pub with_status : ℕ → Replies → Replies
with_status word r = record {
  words = capped (r.words + 1);
  message_error = capped (r.message_error + one_if (has_message_error word));
  instrumentation = capped (r.instrumentation + one_if (has_instrumentation word));
  service_request = capped (r.service_request + one_if (has_service_request word));
  reserved = capped (r.reserved + one_if (has_reserved word));
  broadcast = capped (r.broadcast + one_if (has_broadcast_received word));
  busy = capped (r.busy + one_if (has_busy word));
  subsystem = capped (r.subsystem + one_if (has_subsystem_flag word));
  control = capped (r.control + one_if (has_control_acceptance word));
  terminal = capped (r.terminal + one_if (has_terminal_flag word));
}

-- more status words, the latest first
abbrev pub with_statuses : List ℕ → Replies → Replies
with_statuses [] r = r
with_statuses (word ∷ words) r = with_status word (with_statuses words r)
