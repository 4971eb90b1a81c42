-- Whose the error of a transfer between terminals is (own choice): that of the terminal whose reply is missing or
-- wrong, the first of them where both are. The sender replies first, and the receiver behind its data words; it replies
-- to words that are sound, contiguous and as many as commanded, and to no others (MIL-STD-1553B 4.3.3.6.3, 4.4.3.6).
--
-- A record does not say which of its words is unsound or has another sync. Where the receiver did not reply, such a
-- word is taken for the sender's, also where it was the controller's; where it did, for the receiver's, since it would
-- not have replied else. So is an error of which nothing in the record tells.
use Rattle.std.specs.Prelude.{ℕ, ◌+◌, ◌-◌, ◌==◌, Bool, not, ◌&&◌, ◌||◌, nat_lt, if◌then◌else◌}
use Rattle.mil_word.specs.Fields.{address_of, count_of, is_broadcast}
use Rattle.mil_word.specs.Timing.{response_time_out}
use Rattle.ch11_layout.specs.Stamps.{Recorded}
use Rattle.ch11_layout.specs.BlockStatus.{has_format_error, has_sync_type_error, has_invalid_word_error}
use Rattle.ch11_layout.specs.Layouts.{size_of, word_of, first_word, is_between, first_gap, second_gap}

-- the command to the sender, behind that to the receiver
abbrev pub second_word : Recorded → ℕ
second_word m = word_of m.bytes 1

abbrev pub address_at : ℕ → Recorded → ℕ
address_at place m = address_of (word_of m.bytes place)

abbrev pub is_to_all : Recorded → Bool
is_to_all m = is_broadcast (first_word m)

-- the sender's status word, which is due behind the commands, is missing, of another terminal, or later than the
-- controller waits (4.3.3.9)
abbrev pub is_first_reply_missing : Recorded → Bool
is_first_reply_missing m = first_gap m == 0 || nat_lt (size_of m) 3

abbrev pub is_first_reply_wrong : Recorded → Bool
is_first_reply_wrong m =
    is_first_reply_missing m
    || (not (address_at 2 m == address_at 1 m) || nat_lt response_time_out (first_gap m))

-- where the receiver's status word is due: behind two commands, a status word and as many data words as commanded
abbrev pub receivers_place : Recorded → ℕ
receivers_place m = 3 + count_of (second_word m)

-- a word at a place has the receiver's address
abbrev pub is_receivers : ℕ → Recorded → Bool
is_receivers place m = nat_lt place (size_of m) && (address_at place m == address_at 0 m)

-- the receiver replied, but its status word is the last word in place of the one that is due
abbrev pub is_reply_elsewhere : Recorded → Bool
is_reply_elsewhere m =
    not (is_receivers (receivers_place m) m) && (nat_lt 3 (size_of m) && is_receivers (size_of m - 1) m)

-- it did not, and words are missing, left over, unsound, not contiguous, or of another sync
abbrev pub has_unsound_word : Recorded → Bool
has_unsound_word m = has_format_error m.block || (has_sync_type_error m.block || has_invalid_word_error m.block)

abbrev pub are_words_wrong : Recorded → Bool
are_words_wrong m = not (size_of m == receivers_place m) || has_unsound_word m

-- the sender's words are wrong, by what the receiver did
abbrev pub are_senders_words_wrong : Recorded → Bool
are_senders_words_wrong m = if second_gap m == 0 then are_words_wrong m else is_reply_elsewhere m

abbrev pub has_two_commands : Recorded → Bool
has_two_commands m = is_between m && nat_lt 1 (size_of m)

-- of a message with two commands that failed, the error is the sender's; to all terminals no other reply is due
abbrev pub is_senders : Recorded → Bool
is_senders m =
    has_two_commands m && (is_to_all m || (is_first_reply_wrong m || are_senders_words_wrong m))
