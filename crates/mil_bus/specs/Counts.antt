-- What a bus monitor sees of a finished talk: how many words each run has, and which were wrong.
use Rattle.std.specs.Prelude.{ℕ, ◌+◌, ◌==◌, nat_lt, Bool, false, ◌&&◌, ◌||◌, not, List, [], ◌∷◌, ◌++◌, length, Option}
use Rattle.std.specs.Prelude.{Some, None}
use Rattle.std.specs.List.{list_any, filter}
use Rattle.std.specs.Option.{is_none}
use Rattle.std.proofs.Common.{zero, suc}
use Rattle.mil_word.specs.declared.Word.{Word}
use Rattle.mil_word.specs.Wave.{word_of}
use Rattle.mil_word.specs.Timing.{contiguous_gap}
use Rattle.mil_word.specs.Words.{is_command_sync, same_bool}
use Rattle.mil_message.specs.declared.forms.Form.{Form}
use Rattle.mil_message.specs.Forms.{commands, replies_due}
use Rattle.mil_bus.specs.declared.talks.Sent.{Sent}
use Rattle.mil_bus.specs.declared.counts.Came.{Came}
use Rattle.mil_bus.specs.declared.counts.TalkCounts.{TalkCounts}

-- the words of a run
abbrev pub run_of : ℕ → List Sent → List Sent
run_of run sent = filter (λ w. w.run == run) sent

-- a reply that came: the gap of its first word, that word where it is sound, and how many words there are
abbrev pub came_of : List Sent → Option Came
came_of [] = None
came_of (w ∷ ws) = Some (record { gap = w.gap; first = word_of w.wave; count = length ws + 1 })

-- the places that take command sync, where so many commands are sent and so many replies are due: the commands, and the
-- first place of a due reply; all others take data sync
abbrev pub takes_command : ℕ → ℕ → ℕ → ℕ → Bool
takes_command commands due zero place = nat_lt place commands
takes_command commands due (suc k) place = nat_lt k due && place == 0

-- a sound word that has the other sync
abbrev pub differs : Bool → Option Word → Bool
differs command None = false
differs command (Some word) = not (same_bool (is_command_sync word.sync) command)

-- whether one of the words is sound and has the wrong sync for its place, after these
abbrev pub is_any_other_sync : ℕ → ℕ → List Sent → List Sent → Bool
is_any_other_sync commands due before [] = false
is_any_other_sync commands due before (w ∷ ws) =
    differs (takes_command commands due w.run (length (run_of w.run before))) (word_of w.wave)
    || is_any_other_sync commands due (before ++ w ∷ []) ws

-- whether a word behind the first of a run does not follow the one before at once
abbrev pub is_broken : List Sent → Bool
is_broken [] = false
is_broken (w ∷ ws) = list_any (λ (v : Sent). not (v.gap == contiguous_gap)) ws

-- whether the controller's run is broken so, or a due reply; a reply beyond those due does not count
abbrev pub is_any_broken : ℕ → List Sent → Bool
is_any_broken due sent = is_broken (run_of 0 sent)
    || ((nat_lt 0 due && is_broken (run_of 1 sent)) || (nat_lt 1 due && is_broken (run_of 2 sent)))

-- what is seen where so many commands are sent and so many replies are due
unfoldable pub counts_of : ℕ → ℕ → List Sent → TalkCounts
counts_of commands due sent = record {
  controllers = length (run_of 0 sent);
  one = came_of (run_of 1 sent);
  two = came_of (run_of 2 sent);
  beyond = list_any (λ w. nat_lt due w.run) sent;
  unsound = list_any (λ w. is_none (word_of w.wave)) sent;
  other_sync = is_any_other_sync commands due [] sent;
  paused = is_any_broken due sent;
}

-- what is seen of the talk of a message
abbrev pub seen_of : Form → List Sent → TalkCounts
seen_of form sent = counts_of (length (commands form)) (length (replies_due form)) sent
