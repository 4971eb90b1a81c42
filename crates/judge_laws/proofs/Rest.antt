-- Terminals at which no window is open, and what the host of a terminal has set, after words that concern them not.
use Rattle.std.proofs.Common.{◌≡◌, ℕ, false, List, [], ◌∷◌, refl, Option, Some, None}
use Rattle.mil_word.specs.declared.Line.{Line}
use Rattle.mil_word.specs.Words.{same_line}
use Rattle.mil_host.specs.declared.actions.Action.{Action}
use Rattle.mil_terminal.specs.declared.events.Event.TheVariants.{Heard, Quiet}
use Rattle.mil_terminal.specs.History.{History, latest_set}
use Rattle.mil_terminal.specs.Station.{Station}
use Rattle.mil_terminal.specs.Runs.{heard, met, AreNoCommands}
use Rattle.mil_terminal.specs.Windows.{Window, opening, latest_window, undecided, is_open_on, is_listening}
use Rattle.mil_terminal.specs.Replies.{reply}
use Rattle.mil_terminal.proofs.Ends.{stays_decided, nothing_open}
use Rattle.mil_terminal.proofs.Runs.{first_none, rest_none}
use Rattle.mil_bus.specs.Index.{IsClosed}
use Rattle.judge_laws.proofs.Openings.{line-itself, opens-not, other-reply}

-- no window is open
abbrev pub Rests : ℕ → History → Type 0
Rests own h = undecided own (latest_window own h) ≡ None

pub closed-rests : (s : Station) → IsClosed s → Rests s.own s.history
unfolding is_listening
closed-rests s closed = go (undecided s.own (latest_window s.own s.history)) closed
  where
    go : (w : Option Window) → ((line : Line) → is_open_on line w ≡ false) → w ≡ None
    go None h = refl
    go (Some w) h = let no : same_line w.line w.line ≡ false = h w.line in let yes = line-itself w.line in cc

pub rests-word : (own : ℕ) (line : Line) (wave gap : ℕ) (h : History) → opening own (Heard line wave gap) h ≡ None → Rests own h → Rests own (Heard line wave gap ∷ h)
rests-word own line wave gap h opens is = stays_decided own (Heard line wave gap) h opens is

pub rests-words : (own : ℕ) (line : Line) (gap : ℕ) (waves : List ℕ) (h : History) → AreNoCommands 0 waves → Rests own h → Rests own (met (heard line gap waves) h)
rests-words own line gap [] h none is = is
rests-words own line gap (w ∷ ws) h none is =
    rests-words own line 20 ws (Heard line w gap ∷ h) (rest_none w ws none) (rests-word own line w gap h (opens-not own line w gap h (first_none w ws none)) is)

pub rests-quiet : (own : ℕ) (line : Line) (h : History) → Rests own h → Rests own (Quiet line ∷ h)
rests-quiet own line h is = stays_decided own (Quiet line) h refl is

pub rests-reply : (own : ℕ) (line : Line) (h : History) → Rests own h → reply own line h ≡ None
rests-reply own line h is = other-reply own line (Quiet line ∷ h) h None (nothing_open own (Quiet line) h is) refl refl

-- words change nothing that the host has set
pub set-stays : {X : Type 0} (told : Action → Option X) (first : X) (line : Line) (gap : ℕ) (waves : List ℕ) (h : History) → latest_set told first (met (heard line gap waves) h) ≡ latest_set told first h
set-stays told first line gap [] h = refl
set-stays told first line gap (w ∷ ws) h = set-stays told first line 20 ws (Heard line w gap ∷ h)
