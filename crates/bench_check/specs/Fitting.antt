-- How long a script's frames may take at worst, and which of those with a period may not fit into it (own choice): a
-- tally of the script, of which no law says what an exchange takes.
-- Times are ticks of 0.1 µs: a word takes 200 (MIL-STD-1553B 4.3.3.4), and a gap is counted as on the bus, 20 where
-- there is no pause.
use Rattle.std.specs.Prelude.{ℕ, ◌+◌, ◌-◌, ◌*◌, min, max, nat_lt, if◌then◌else◌, List, [], ◌∷◌, ◌++◌, length}
use Rattle.mil_word.specs.Timing.{word_time, contiguous_gap, longer_gap, latest_response}
use Rattle.mil_message.specs.declared.forms.Due.{Due}
use Rattle.mil_message.specs.declared.forms.Form.{Form}
use Rattle.mil_message.specs.Forms.{controller_words, replies_due}
use Rattle.mil_bus.specs.Times.{lasting}
use Rattle.frame_tree.specs.Tree.{Tree, send, retry, gap, repeat, choose, until, timed, nothing, chained, call, define}
use Rattle.frame_tree.specs.Names.{Scope, meant_by}
use Rattle.bench_check.specs.declared.fitting.Timed.{Timed}
use Rattle.bench_check.specs.declared.fitting.Tight.{Tight}

-- a reply that is due: its status word with the longest response time, a gap of 120 (4.3.3.8), and its data words
abbrev pub reply_ticks : Due → ℕ
reply_ticks due = lasting 1 latest_response + word_time * due.words

abbrev pub replies_ticks : List Due → ℕ
replies_ticks [] = 0
replies_ticks (due ∷ dues) = reply_ticks due + replies_ticks dues

-- a message: the controller's words, and the replies that are due
abbrev pub message_ticks : Form → ℕ
message_ticks form = word_time * length (controller_words form) + replies_ticks (replies_due form)

-- the longest gap that a tree sets; 0 where it sets none
abbrev pub set_gap : Tree → ℕ
set_gap (send l m) = 0
set_gap (retry n l m) = 0
set_gap (gap t) = t
set_gap (repeat n b) = set_gap b
set_gap (choose c a b) = max (set_gap a) (set_gap b)
set_gap (until c n b) = set_gap b
set_gap (timed h b) = set_gap b
set_gap nothing = 0
set_gap (chained a b) = max (set_gap a) (set_gap b)
set_gap (call n) = 0
set_gap (define n b r) = max (set_gap b) (set_gap r)

-- the longest gap in front of a message of a script: 180, which is left behind a message that failed or ended with a
-- word of the controller, or a longer one that the script sets
abbrev pub longest_gap : Tree → ℕ
longest_gap t = max longer_gap (set_gap t)

-- the pause in front of a message, and the message
abbrev pub spent : ℕ → Form → ℕ
spent longest form = (longest - contiguous_gap) + message_ticks form

-- How long a tree takes at worst where no gap is longer than this, and where a call of each name in scope takes so
-- long: every retry is used up, an until runs all its turns, an if takes the branch that is longer, and a frame with a
-- period lasts for its period at least.
abbrev pub ticks_in : ℕ → Scope ℕ → Tree → ℕ
ticks_in g ds (send l m) = spent g m
ticks_in g ds (retry n l m) = (1 + n) * spent g m
ticks_in g ds (gap t) = 0
ticks_in g ds (repeat n b) = n * ticks_in g ds b
ticks_in g ds (choose c a b) = max (ticks_in g ds a) (ticks_in g ds b)
ticks_in g ds (until c n b) = n * ticks_in g ds b
ticks_in g ds (timed h b) = max (1000 * h) (ticks_in g ds b)
ticks_in g ds nothing = 0
ticks_in g ds (chained a b) = ticks_in g ds a + ticks_in g ds b
ticks_in g ds (call n) = meant_by 0 ds n
ticks_in g ds (define n b r) = ticks_in g ((n, ticks_in g ds b) ∷ ds) r

-- a number of ticks up to 100 s, which is more than any period; 100 s where it is more
abbrev pub most : ℕ → ℕ
most n = min 1000000000 n

-- the frames with a period in the order of the text, those of a definition once, each with how long its body takes at
-- worst
abbrev pub frames_in : ℕ → Scope ℕ → Tree → List Timed
frames_in g ds (send l m) = []
frames_in g ds (retry n l m) = []
frames_in g ds (gap t) = []
frames_in g ds (repeat n b) = frames_in g ds b
frames_in g ds (choose c a b) = frames_in g ds a ++ frames_in g ds b
frames_in g ds (until c n b) = frames_in g ds b
frames_in g ds (timed h b) = record { hundreds = h; ticks = most (ticks_in g ds b) } ∷ frames_in g ds b
frames_in g ds nothing = []
frames_in g ds (chained a b) = frames_in g ds a ++ frames_in g ds b
frames_in g ds (call n) = []
frames_in g ds (define n b r) = frames_in g ds b ++ frames_in g ((n, ticks_in g ds b) ∷ ds) r

-- a frame of this place, where it takes longer than its period
abbrev pub tight_at : ℕ → Timed → List Tight
tight_at place f =
    if nat_lt (1000 * f.hundreds) f.ticks
    then record { place = place; hundreds = f.hundreds; ticks = f.ticks } ∷ []
    else []

-- those of frames that are counted from a place on
abbrev pub tight_from : ℕ → List Timed → List Tight
tight_from place [] = []
tight_from place (f ∷ fs) = tight_at place f ++ tight_from (place + 1) fs

-- the frames of a script of which the tally is above their period
abbrev pub tight_frames : Tree → List Tight
tight_frames t = tight_from 1 (frames_in (longest_gap t) [] t)
