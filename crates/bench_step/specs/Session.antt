-- A session (own choice): lines, and what is replied to each of them, from the state that those before it left.
use Rattle.std.specs.Prelude.{◌≡◌, ◌≢◌, ℕ, ◌+◌, ◌-◌, ◌<◌, ◌≤◌, ◌⊎◌, Bool, true, false, List, [], ◌∷◌, ◌++◌}
use Rattle.std.specs.Prelude.{length, Option, None, Some, codes, decimal}
use Rattle.std.specs.List.{flat_map, zip, list_any}
use Rattle.text_lines.specs.Words.{Text}
use Rattle.job_file.specs.Jobs.{JobState, job_in}
use Rattle.job_file.specs.Meaning.{bus_after, made_after}
use Rattle.judge_rules.specs.declared.rules.Selector.{Selector}
use Rattle.ch11_reader.specs.Recording.{Found}
use Rattle.ch11_reader.specs.Contents.{message_numbered}
use Rattle.bench_report.specs.Reports.{ChannelPart}
use Rattle.replay.specs.declared.error.ReplayError.TheVariants as error
use Rattle.replay.specs.Codes.{error_text}
use Rattle.replay.specs.Places.{latest_kept_number}
use Rattle.replay.specs.Moves.{ReplayState, at_place, total_of, IsNextMet, IsNowhere, IsLatestMet, IsNowhereBefore}
use Rattle.replay.specs.Moves.{PastWhere, StartWhere, IsMemory}
use Rattle.bench_select.specs.Viewed.{Viewed, viewed_in}
use Rattle.bench_decode.specs.declared.line.Shown.TheVariants.{Plain}
use Rattle.bench_decode.specs.declared.messages.Place.{Place}
use Rattle.bench_decode.specs.MessageText.{message_line}
use Rattle.bench_state.specs.declared.details.Detail.{Detail}
use Rattle.bench_state.specs.StateText.{channel_text}
use Rattle.bench_places.specs.Places.{count_to, latest_of, message_of_number, place_before, place_of}
use Rattle.bench_places.specs.declared.sought.Sought.TheVariants.{Later, Commands}
use Rattle.bench_step.specs.Commands.{Asked, forward, back, go, go_time, seek, find, find_back, select, select_back}
use Rattle.bench_step.specs.Commands.{state, show, show_at, help, quit, no_condition, unknown, asked}
use Rattle.bench_step.specs.HelpText.{help_text}
use Rattle.bench_step.specs.declared.commands.Way.{Way}
use Rattle.bench_step.specs.declared.commands.Way.TheVariants.{On, Back}
use Rattle.bench_step.specs.declared.manners.Manner.{Manner}
use Rattle.bench_step.specs.declared.manners.Manner.TheVariants.{Typed}
use Rattle.bench_step.specs.declared.replies.Reply.{Reply}
use Rattle.bench_step.specs.declared.replies.Reply.TheVariants as reply

-- ---- the text of a state

-- the lines of a job's channel at the place where the debugger stands
abbrev pub job_text : Detail → ReplayState → JobState → ChannelPart → Text
job_text detail s job part =
    let number = latest_kept_number s.found s.place job part in
    channel_text detail job.channel number part.placed (bus_after (job_in job) part.placed number)
    (made_after (job_in job) part.placed number)

-- the lines of all channels, in the order of the jobs
unfoldable pub state_text : Detail → ReplayState → Text
state_text detail s = flat_map (λ (p : JobState × ChannelPart). job_text detail s p.0 p.1) (zip s.jobs s.parts)

-- ---- the text of a message

-- where the message of a number stands that is of a channel
abbrev pub place_in : List Found → ℕ → ℕ → Place
place_in found n channel = record { number = n; channel = channel; in_channel = count_to channel n found }

abbrev pub line_of : List Found → ℕ → Option Viewed → Text
line_of found n None = []
line_of found n (Some h) = message_line Plain (place_in found n h.0) h.1

-- the line of the message of a number; none where the file has no such message, as at place 0
unfoldable pub message_text : ℕ → List Found → Text
message_text n found = line_of found n (message_of_number n (viewed_in found))

-- ---- one line

-- the file has a message of this number
abbrev pub HasMessageNumbered : ReplayState → ℕ → Type 0
HasMessageNumbered s n = message_numbered s.found n ≢ None

abbrev pub IsAbsent : ReplayState → ℕ → Type 0
IsAbsent s n = message_numbered s.found n ≡ None

-- what is replied to a move to a place of the recording
abbrev pub IsMoveTo : ℕ → Reply → Type 0
IsMoveTo place (reply.At n) = n ≡ place
IsMoveTo place (reply.Refused e) = IsMemory e
IsMoveTo place _ = ⊥

-- and to a move to the place that was looked for, if there is one
abbrev pub IsMoveIfAny : Option ℕ → Reply → Type 0
IsMoveIfAny None r = r ≡ reply.Refused error.Past
IsMoveIfAny (Some place) r = IsMoveTo place r

-- the place that a selector leads to from another: that of the next message, or of the latest one before it
abbrev pub selected_place : Way → Selector → ℕ → List Found → Option ℕ
selected_place On selector place found = place_of (Commands selector) place 1 found
selected_place Back selector place found = latest_of (Commands selector) place found

-- what is replied where this is the place that was looked for, if there is one
abbrev pub RepliesPlaceFound : Option ℕ → Reply → Type 0
RepliesPlaceFound place (reply.At n) = place ≡ Some n
RepliesPlaceFound place (reply.Refused e) = PastWhere (place ≡ None) e ⊎ IsMemory e
RepliesPlaceFound place _ = ⊥

-- What may be replied in a state to a line that asks this. Memory may be refused for a move that can be made, and for
-- what stands behind `find`, before it is known whether that is a condition that some message meets, or a selector that
-- is about one.
abbrev pub Replies : ReplayState → Asked → Reply → Type 0
Replies s (forward k) (reply.At n) = (s.place + k ≤ total_of s) × (n ≡ s.place + k)
Replies s (forward k) (reply.Refused e) = PastWhere (total_of s < s.place + k) e
Replies s (back k) (reply.At n) = (k ≤ s.place) × (n ≡ s.place - k)
Replies s (back k) (reply.Refused e) = StartWhere (s.place < k) e
Replies s (go n) (reply.At m) = (n ≤ total_of s) × (m ≡ n)
Replies s (go n) (reply.Refused e) = PastWhere (total_of s < n) e
Replies s (go_time ticks) r = IsMoveTo (place_before (Later ticks) s.found) r
Replies s (seek sought n) (reply.At m) = place_of sought 0 n s.found ≡ Some m
Replies s (seek sought n) (reply.Refused e) = PastWhere (place_of sought 0 n s.found ≡ None) e
Replies s (find test) (reply.At n) = IsNextMet s test n
Replies s (find test) (reply.Refused e) = PastWhere (IsNowhere s test) e ⊎ IsMemory e
Replies s (find_back test) (reply.At n) = IsLatestMet s test n
Replies s (find_back test) (reply.Refused e) = PastWhere (IsNowhereBefore s test) e ⊎ IsMemory e
Replies s (select selector) r = RepliesPlaceFound (place_of (Commands selector) s.place 1 s.found) r
Replies s (select_back selector) r = RepliesPlaceFound (latest_of (Commands selector) s.place s.found) r
Replies s (state detail) (reply.Shown shown) = shown ≡ detail
Replies s show (reply.Message n) = HasMessageNumbered s s.place × (n ≡ s.place)
Replies s show (reply.Refused e) = IsAbsent s s.place × (e ≡ error.Past)
Replies s (show_at n) (reply.Message m) = HasMessageNumbered s n × (m ≡ n)
Replies s (show_at n) (reply.Refused e) = IsAbsent s n × (e ≡ error.Past)
Replies s help reply.Help = Unit {0}
Replies s quit reply.Quit = Unit {0}
Replies s no_condition reply.Unknown = Unit {0}
Replies s no_condition (reply.Refused e) = IsMemory e
Replies s unknown reply.Unknown = Unit {0}
Replies s _ _ = ⊥

-- the state behind a line: only a move that was made changes it
abbrev pub after_reply : Reply → ReplayState → ReplayState
after_reply (reply.At n) s = at_place n s
after_reply _ s = s

-- what is printed in that state, except a message
abbrev pub reply_text : Reply → ReplayState → Text
reply_text (reply.At n) s = codes "at " ++ (decimal n ++ codes "\n")
reply_text (reply.Refused e) s = error_text e ++ codes "\n"
reply_text (reply.Shown detail) s = state_text detail s
reply_text (reply.Message n) s = []
reply_text reply.Help s = help_text
reply_text reply.Quit s = []
reply_text reply.Unknown s = codes "unknown\n"

-- the message that is shown behind it: the one that was asked for and, where lines are typed, the one at the place that
-- a move ended at
abbrev pub told_text : Manner → Reply → List Found → Text
told_text manner (reply.Message n) found = message_text n found
told_text Typed (reply.At n) found = message_text n found
told_text manner _ found = []

-- all that is printed in that state
abbrev pub answer_text : Manner → Reply → ReplayState → Text
answer_text manner r s = reply_text r s ++ told_text manner r s.found

-- memory was refused
abbrev pub is_memory : Reply → Bool
is_memory (reply.Refused error.Memory) = true
is_memory _ = false

-- the session ends
abbrev pub is_end : Reply → Bool
is_end reply.Quit = true
is_end _ = false

-- ---- all lines

-- to each line its reply
abbrev pub AreReplies : Manner → ReplayState → List Text → List Reply → Type 0
AreReplies manner s [] [] = Unit {0}
AreReplies manner s [] (r ∷ rs) = ⊥
AreReplies manner s (line ∷ lines) [] = ⊥
AreReplies manner s (line ∷ lines) (r ∷ rs) = Replies s (asked manner line) r
    × AreReplies manner (after_reply r s) lines rs

-- the state behind all of them
abbrev pub after_replies : List Reply → ReplayState → ReplayState
after_replies [] s = s
after_replies (r ∷ rs) s = after_replies rs (after_reply r s)

-- all that is printed
abbrev pub session_text : Manner → List Reply → ReplayState → Text
session_text manner [] s = []
session_text manner (r ∷ rs) s = answer_text manner r (after_reply r s) ++ session_text manner rs (after_reply r s)

-- memory was refused at some line
abbrev pub any_memory : List Reply → Bool
any_memory replies = list_any is_memory replies

-- where memory is refused for no line, what is replied to the lines is determined
abbrev pub RepliesAreDetermined : Type 0
RepliesAreDetermined =
    (manner : Manner) (s : ReplayState) (lines : List Text) (replies others : List Reply)
    → AreReplies manner s lines replies → AreReplies manner s lines others
    → any_memory replies ≡ false → any_memory others ≡ false → replies ≡ others

-- a message that the file has is shown by some text
abbrev pub MessagesHaveText : Type 0
MessagesHaveText = (s : ReplayState) (n : ℕ) → HasMessageNumbered s n → 0 < length (message_text n s.found)
