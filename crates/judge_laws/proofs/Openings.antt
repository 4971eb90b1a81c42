-- A window that a command opens, and the words that come in it.
use Rattle.std.proofs.Common.{◌≡◌, ℕ, ◌<◌, ◌^◌, ◌==◌, Bool, true, false, ◌&&◌, ◌||◌, List, [], ◌∷◌, ◌++◌, refl, sym, ap, ◌∙◌, append-nil, append_assoc, Option, Some, None}
use Rattle.std.specs.Prelude.{not}
use Rattle.std.proofs.lemmas.Bool.{eq-eqb}
use Rattle.std.specs.Option.{option_map}
use Rattle.mil_word.specs.declared.Line.{Line}
use Rattle.mil_word.specs.declared.Line.TheVariants.{A, B}
use Rattle.mil_word.specs.Words.{same_line, command_in, command_wave}
use Rattle.mil_word.specs.Fields.{address_of}
use Rattle.mil_terminal.specs.declared.events.Event.{Event}
use Rattle.mil_terminal.specs.declared.events.Event.TheVariants.{Heard, Quiet}
use Rattle.mil_terminal.specs.History.{History}
use Rattle.mil_terminal.specs.Runs.{heard, met, AreNoCommands}
use Rattle.mil_terminal.specs.Host.{is_off}
use Rattle.mil_terminal.specs.Windows.{Window, Ended, is_to, opening, latest_window, is_decided, undecided, ended_by}
use Rattle.mil_terminal.specs.Verdicts.{verdict, is_bad}
use Rattle.mil_terminal.specs.Registers.{is_transmitter_on}
use Rattle.mil_terminal.specs.Replies.{is_answered, reply_to, reply}
use Rattle.mil_terminal.proofs.Ends.{with_item, window_on, window_opened, nothing_open, still_open, ends_by_quiet}
use Rattle.mil_terminal.proofs.Runs.{first_none, rest_none}
use Rattle.mil_terminal.proofs.Passing.{reply_off, reply_on}
use Rattle.judge_laws.proofs.Words.{command-read}

pub line-itself : (line : Line) → same_line line line ≡ true
line-itself A = refl
line-itself B = refl

pub opens-not : (own : ℕ) (line : Line) (wave gap : ℕ) (h : History) → command_in wave ≡ None → opening own (Heard line wave gap) h ≡ None
opens-not own line wave gap h none = rw none refl

pub opens-by : (own : ℕ) (line : Line) (c gap : ℕ) (h : History) → c < 2 ^ 16 → is_to own h c ≡ true → opening own (Heard line (command_wave c) gap) h ≡ Some (line, c)
opens-by own line c gap h small called = rw (command-read c small, called) refl

-- a command with a terminal's own address is to it
pub to-own : (own c : ℕ) (h : History) → address_of c ≡ own → is_to own h c ≡ true
to-own own c h mine = rw (eq-eqb (address_of c) own mine) refl

abbrev pub window : Line → ℕ → List Event → Window
window line c items = record { line = line; command = c; items = items }

-- words that are no commands come to the window
pub words-come : (own : ℕ) (line : Line) (gap : ℕ) (waves : List ℕ) (h : History) (c : ℕ) (items : List Event) → AreNoCommands 0 waves → latest_window own h ≡ Some (window line c items)
    → latest_window own (met (heard line gap waves) h) ≡ Some (window line c (items ++ heard line gap waves))
words-come own line gap [] h c items none is = is ∙ ap (λ xs. Some (window line c xs)) (sym (append-nil items))
words-come own line gap (w ∷ ws) h c items none is =
    let e : Event = Heard line w gap in
    let one : latest_window own (e ∷ h) ≡ Some (window line c (items ++ e ∷ [])) =
    window_on own e h refl (opens-not own line w gap h (first_none w ws none)) ∙ ap (option_map (with_item e)) is ∙ rw (line-itself line) refl in
    words-come own line 20 ws (e ∷ h) c (items ++ e ∷ []) (rest_none w ws none) one
    ∙ ap (λ xs. Some (window line c xs)) (append_assoc items (e ∷ []) (heard line 20 ws))

-- the window of a command and the words behind it
pub window-of : (own : ℕ) (line : Line) (c gap : ℕ) (waves : List ℕ) (h : History) → c < 2 ^ 16 → is_to own h c ≡ true → AreNoCommands 0 waves
    → latest_window own (met (heard line gap (command_wave c ∷ waves)) h) ≡ Some (window line c (heard line 20 waves))
window-of own line c gap waves h small called none =
    words-come own line 20 waves (Heard line (command_wave c) gap ∷ h) c [] none (window_opened own (Heard line (command_wave c) gap) h (line, c) (opens-by own line c gap h small called))

and-middle : (a b c : Bool) → b ≡ false → (a && b && c) ≡ false
and-middle true true c is = cc
and-middle true false c is = refl
and-middle false b c is = refl

-- a quiet that ends no window, or one that is not answered
pub other-reply : (own : ℕ) (line : Line) (h past : History) (ends : Option Ended) → ended_by own (Quiet line) past ≡ ends → reply_to own ends h ≡ None → h ≡ Quiet line ∷ past → reply own line past ≡ None
other-reply own line h past ends is none same = go (is_off past) refl
  where
    go : (b : Bool) → is_off past ≡ b → reply own line past ≡ None
    go true off = reply_off own line past off
    go false on = reply_on own line past on ∙ rw (is, ← same) none

not-answered : (own : ℕ) (e : Ended) (h : History) → is_answered own e ≡ false → reply_to own (Some e) h ≡ None
not-answered own e h unmet = rw unmet refl

-- a window that is not answered where this quiet decides it
pub no-reply : (own : ℕ) (line : Line) (c : ℕ) (items : List Event) (h : History) → latest_window own h ≡ Some (window line c items)
    → is_answered own (record { window = window line c (items ++ Quiet line ∷ []); by_quiet = true; before = h }) ≡ false → reply own line h ≡ None
no-reply own line c items h is unmet = go (is_decided own w) (is_decided own v) refl refl
  where
    w : Window
    w = window line c items

    v : Window
    v = window line c (items ++ Quiet line ∷ [])

    now : latest_window own (Quiet line ∷ h) ≡ Some v
    now = window_on own (Quiet line) h refl refl ∙ ap (option_map (with_item (Quiet line))) is ∙ rw (line-itself line) refl

    closed : is_decided own w ≡ true → undecided own (latest_window own h) ≡ None
    closed done = rw (is, done) refl

    go : (a b : Bool) → is_decided own w ≡ a → is_decided own v ≡ b → reply own line h ≡ None
    go true b before after = other-reply own line (Quiet line ∷ h) h None (nothing_open own (Quiet line) h (closed before)) refl refl
    go false false before after = other-reply own line (Quiet line ∷ h) h None (still_open own (Quiet line) h w v refl is now before after) refl refl
    go false true before after =
        let e : Ended = record { window = v; by_quiet = true; before = h } in
        other-reply own line (Quiet line ∷ h) h (Some e) (ends_by_quiet own (Quiet line) h w v refl is now before after) (not-answered own e (Quiet line ∷ h) unmet) refl

-- a window of a command to another address is not answered
pub other-address : (own : ℕ) (line : Line) (c : ℕ) (items : List Event) (h : History) → latest_window own h ≡ Some (window line c items) → (address_of c == own) ≡ false → reply own line h ≡ None
other-address own line c items h is other =
    let e : Ended = record { window = window line c (items ++ Quiet line ∷ []); by_quiet = true; before = h } in
    no-reply own line c items h is (and-middle (not (is_bad (verdict own e))) (address_of c == own) (is_transmitter_on own line h) other)
