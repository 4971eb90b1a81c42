-- Registers that stand for a history, after one more word.
use Rattle.std.proofs.Common.{◌≡◌, ℕ, List, [], ◌∷◌, ◌++◌, refl, ap, ◌∙◌, append-nil, zero-le}
use Rattle.std.specs.Prelude.{Bool, true, false, ◌&&◌, ◌==◌, Option, Some, None, if◌then◌else◌}
use Rattle.std.specs.Option.{option_map}
use Rattle.std.specs.List.{filter}
use Rattle.mil_word.specs.declared.Line.{Line}
use Rattle.mil_word.specs.declared.Line.TheVariants.{A, B}
use Rattle.mil_word.specs.Words.{same_line}
use Rattle.mil_word.specs.Fields.{code_of}
use Rattle.mil_terminal.specs.declared.events.Event.{Event}
use Rattle.mil_terminal.specs.declared.events.Event.TheVariants.{Heard, Quiet}
use Rattle.mil_terminal.specs.History.{History}
use Rattle.mil_terminal.specs.Windows.{Ended, opening, latest_window, is_on, ended_by}
use Rattle.mil_terminal.specs.Host.{is_power_on}
use Rattle.mil_terminal.specs.Answers.{quiet_ends, gives_vector, gives_words}
use Rattle.mil_terminal.specs.Registers.{last_command, is_question, vector, bit_set_or}
use Rattle.mil_terminal.specs.declared.host.Settings.{Settings}
use Rattle.mil_terminal.specs.declared.pending.Phase.TheVariants.{Start}
use Rattle.mil_terminal.specs.declared.pending.Pending.{Pending}
use Rattle.mil_terminal.specs.declared.registers.Registers.{Registers}
use Rattle.mil_terminal.specs.Phases.{IsPending, window_of}
use Rattle.mil_terminal.specs.Updates.{with_open_window}
use Rattle.mil_terminal.specs.StandsFor.{AreSettings, ArePutUp, IsOpen, StandsFor}
use Rattle.mil_terminal.proofs.Ends.{with_item, window_on, window_opened, stays_decided, nothing_open, still_open, cut_short, is_undecided}
use Rattle.mil_terminal.proofs.Switching.{switches-none, switches-bad}
use Rattle.mil_terminal.proofs.Syncing.{synced-none, synced-bad}
use Rattle.mil_terminal.proofs.Storing.{received-none, received-bad}
use Rattle.mil_terminal.proofs.Telling.{conditions-none, conditions-some}

-- ---- the host and the last command do not change with a word or a quiet

pub settings_heard : (own : ℕ) (host : Settings) (line : Line) (wave gap : ℕ) (past : History) → AreSettings own host past → AreSettings own host (Heard line wave gap ∷ past)
unfolding vector
settings_heard own host line wave gap past is = record {
  busy = is.busy;
  service = is.service;
  once = is.once;
  subsystem = is.subsystem;
  fault = is.fault;
  control = is.control;
  vector = is.vector;
  self_test = is.self_test;
  response = is.response;
  by_gap = is.by_gap;
  bit = is.bit;
  broadcast = is.broadcast;
  off = is.off;
  marks = is.marks;
  modes = is.modes;
  deaf = is.deaf;
  mute = is.mute;
}

-- a quiet that gives no vector word
pub settings_quiet : (own : ℕ) (host : Settings) (line : Line) (past : History) → quiet_ends own (gives_vector own) line past ≡ false
    → AreSettings own host past → AreSettings own host (Quiet line ∷ past)
unfolding vector
settings_quiet own host line past none is = record {
  busy = is.busy;
  service = rw none is.service;
  once = rw none is.once;
  subsystem = is.subsystem;
  fault = is.fault;
  control = is.control;
  vector = is.vector;
  self_test = is.self_test;
  response = is.response;
  by_gap = is.by_gap;
  bit = is.bit;
  broadcast = is.broadcast;
  off = is.off;
  marks = is.marks;
  modes = is.modes;
  deaf = is.deaf;
  mute = is.mute;
}

pub put_up_heard : (own : ℕ) (block : List (List ℕ)) (line : Line) (wave gap : ℕ) (past : History) → ArePutUp own block past → ArePutUp own block (Heard line wave gap ∷ past)
put_up_heard own block line wave gap past is = record { long = is.long; count = is.count; words = is.words; ramps = is.ramps }

-- a quiet that gives no words
pub put_up_quiet : (own : ℕ) (block : List (List ℕ)) (line : Line) (past : History) → ((sub place : ℕ) → quiet_ends own (gives_words own sub place) line past ≡ false)
    → ArePutUp own block past → ArePutUp own block (Quiet line ∷ past)
put_up_quiet own block line past none is = record { long = is.long; count = is.count; words = λ sub place lt. rw (none sub place) (is.words sub place lt); ramps = is.ramps }

-- a quiet that ends no window gives nothing
pub gives_nothing : (own : ℕ) (test : Ended → Bool) (line : Line) (past : History) → ended_by own (Quiet line) past ≡ None → quiet_ends own test line past ≡ false
gives_nothing own test line past none = rw none refl

pub last_same : (own n : ℕ) (e : Event) (past : History) → is_power_on e ≡ false → opening own e past ≡ None → n ≡ last_command own past → n ≡ last_command own (e ∷ past)
unfolding last_command
last_same own n e past on h is = rw (on, h) is

-- ---- an event that ends no window and opens none

pub goes_on : (r : Registers) (w : Option Pending) (e : Event) (h : History) → is_power_on e ≡ false → ((word : ℕ) → bit_set_or e word ≡ word) → opening r.own e h ≡ None
    → ended_by r.own e h ≡ None → IsOpen r.own w (e ∷ h)
    → AreSettings r.own r.host (e ∷ h) → ArePutUp r.own r.block (e ∷ h) → StandsFor r h → StandsFor (record r { window = w }) (e ∷ h)
goes_on r w e h on unset not_opening none open_now settings put_up is = record {
  window = open_now;
  settings = settings;
  conditions = conditions-none r.own r.conditions e h on none is.conditions;
  switches = switches-none r.own r.switches e h on none is.switches;
  synced = synced-none r.own r.synced e h on none unset is.synced;
  received = received-none r.own r.block e h on none is.received;
  put_up = put_up;
  last_command = last_same r.own r.last_command e h on not_opening is.last_command;
}

-- no window is open
pub closed_on : (r : Registers) (w v : Option Pending) (e : Event) (h : History) → w ≡ None → v ≡ None → is_power_on e ≡ false → ((word : ℕ) → bit_set_or e word ≡ word)
    → opening r.own e h ≡ None → (ended_by r.own e h ≡ None → AreSettings r.own r.host (e ∷ h)) → (ended_by r.own e h ≡ None → ArePutUp r.own r.block (e ∷ h))
    → StandsFor (record r { window = w }) h → (StandsFor (record r { window = v }) (e ∷ h)) × (ended_by r.own e h ≡ None)
closed_on r w v e h was after on unset not_opening settings put_up is =
    let closed : IsOpen r.own None h = rw was at is.window in
    let none = nothing_open r.own e h closed in
    (goes_on (record r { window = w }) v e h on unset not_opening none (rw after (stays_decided r.own e h not_opening closed)) (settings none) (put_up none) is, none)

-- the window p goes on as q, which stands for its items and for what is new of them
pub open_on : (r : Registers) (w : Option Pending) (p q : Pending) (e : Event) (h : History) → w ≡ Some p → is_power_on e ≡ false → ((word : ℕ) → bit_set_or e word ≡ word)
    → opening r.own e h ≡ None → q.line ≡ p.line → q.command ≡ p.command
    → ((items : List Event) → IsPending r.own p items → IsPending r.own q (items ++ filter (is_on p.line) (e ∷ [])))
    → (ended_by r.own e h ≡ None → AreSettings r.own r.host (e ∷ h)) → (ended_by r.own e h ≡ None → ArePutUp r.own r.block (e ∷ h))
    → StandsFor (record r { window = w }) h → (StandsFor (record r { window = Some q }) (e ∷ h)) × (ended_by r.own e h ≡ None)
open_on r w p q e h was on unset not_opening same_l same_c goes settings put_up is =
    let open_before : IsOpen r.own (Some p) h = rw was at is.window in
    let items = open_before.0 in
    let more = items ++ filter (is_on p.line) (e ∷ []) in
    let pending = goes items open_before.2 in
    let now : latest_window r.own (e ∷ h) ≡ Some (window_of q more) =
    window_on r.own e h on not_opening ∙ ap (option_map (with_item e)) open_before.1 ∙ rw (same_l, same_c) refl in
    let none : ended_by r.own e h ≡ None =
    still_open r.own e h (window_of p items) (window_of q more) not_opening open_before.1 now (is_undecided r.own p items open_before.2) (is_undecided r.own q more pending) in
    (goes_on (record r { window = w }) (Some q) e h on unset not_opening none (more, now, pending) (settings none) (put_up none) is, none)

-- ---- a word that opens nothing

pub same_line_is : (a b : Line) → same_line a b ≡ true → b ≡ a
same_line_is A A h = refl
same_line_is B B h = refl
same_line_is A B h = cc
same_line_is B A h = cc

pub hear_none : (r : Registers) (line : Line) (wave gap : ℕ) (h : History) → r.window ≡ None → opening r.own (Heard line wave gap) h ≡ None
    → StandsFor r h → StandsFor r (Heard line wave gap ∷ h)
hear_none r line wave gap h was not_opening is =
    (closed_on r r.window r.window (Heard line wave gap) h was was refl (λ word. refl) not_opening (λ none. settings_heard r.own r.host line wave gap h is.settings)
    (λ none. put_up_heard r.own r.block line wave gap h is.put_up) is).0

pub hear_item : (r : Registers) (p q : Pending) (line : Line) (wave gap : ℕ) (h : History) → r.window ≡ Some p → opening r.own (Heard line wave gap) h ≡ None → same_line line p.line ≡ true
    → q.line ≡ p.line → q.command ≡ p.command → ((items : List Event) → IsPending r.own p items → IsPending r.own q (items ++ Heard p.line wave gap ∷ []))
    → StandsFor r h → StandsFor (record r { window = Some q }) (Heard line wave gap ∷ h)
hear_item r p q line wave gap h was not_opening same same_l same_c goes is =
    (open_on r r.window p q (Heard line wave gap) h was refl (λ word. refl) not_opening same_l same_c
    (λ items pending. rw (same, ← same_line_is line p.line same) (goes items pending))
    (λ none. settings_heard r.own r.host line wave gap h is.settings) (λ none. put_up_heard r.own r.block line wave gap h is.put_up) is).0

pub hear_silent : (r : Registers) (p : Pending) (line : Line) (wave gap : ℕ) (h : History) → r.window ≡ Some p → opening r.own (Heard line wave gap) h ≡ None → same_line line p.line ≡ false
    → StandsFor r h → StandsFor (record r { window = Some p }) (Heard line wave gap ∷ h)
hear_silent r p line wave gap h was not_opening other is =
    (open_on r r.window p p (Heard line wave gap) h was refl (λ word. refl) not_opening refl refl
    (λ items pending. rw (other, append-nil) pending)
    (λ none. settings_heard r.own r.host line wave gap h is.settings) (λ none. put_up_heard r.own r.block line wave gap h is.put_up) is).0

-- ---- a word that opens a window

and_true : (b : Bool) → (b && true) ≡ b
and_true true = refl
and_true false = refl

new_window : (own : ℕ) (line : Line) (c : ℕ) → IsPending own (record { line = line; command = c; phase = Start; words = record { items = [] } }) []
new_window own line c = record { few = zero-le; start = λ _. refl; before_words = λ _. refl; shape = λ more. refl; quiets = λ more. refl; words = λ _. refl }

-- the last command after the command of a new window
last_opened : (own n : ℕ) (line : Line) (c wave gap : ℕ) (h : History) → opening own (Heard line wave gap) h ≡ Some (line, c) → n ≡ last_command own h
    → (if is_question own c && code_of c == 18 then n else c) ≡ last_command own (Heard line wave gap ∷ h)
unfolding last_command
last_opened own n line c wave gap h is_opening is = rw (is_opening, is) refl

pub hear_opening : (r : Registers) (w : Option Pending) (line : Line) (c wave gap : ℕ) (h : History) → opening r.own (Heard line wave gap) h ≡ Some (line, c)
    → StandsFor (record r { window = w }) h → StandsFor (with_open_window (record r { window = w }) line c) (Heard line wave gap ∷ h)
hear_opening r None line c wave gap h is_opening is =
    let e : Event = Heard line wave gap in
    let none = nothing_open r.own e h is.window in
    record {
      window = ([], window_opened r.own e h (line, c) is_opening, new_window r.own line c);
      settings = settings_heard r.own r.host line wave gap h is.settings;
      conditions = conditions-none r.own r.conditions e h refl none is.conditions;
      switches = switches-none r.own r.switches e h refl none is.switches;
      synced = synced-none r.own r.synced e h refl none (λ word. refl) is.synced;
      received = received-none r.own r.block e h refl none is.received;
      put_up = put_up_heard r.own r.block line wave gap h is.put_up;
      last_command = last_opened r.own r.last_command line c wave gap h is_opening is.last_command;
    }
hear_opening r (Some p) line c wave gap h is_opening is =
    let e : Event = Heard line wave gap in
    let items = is.window.0 in
    let w : Ended = record { window = window_of p items; by_quiet = false; before = h } in
    let ends : ended_by r.own e h ≡ Some w = cut_short r.own e h (window_of p items) (line, c) is_opening is.window.1 (is_undecided r.own p items is.window.2) in
    record {
      window = ([], window_opened r.own e h (line, c) is_opening, new_window r.own line c);
      settings = settings_heard r.own r.host line wave gap h is.settings;
      conditions = conditions-some r e h w false (is_question r.own p.command) ends refl (and_true (is_question r.own p.command)) refl is.settings is.switches is.conditions;
      switches = switches-bad r.own r.switches e h w ends refl is.switches;
      synced = synced-bad r.own r.synced e h w ends refl (λ word. refl) refl is.synced;
      received = received-bad r.own r.block e h w ends refl is.received;
      put_up = put_up_heard r.own r.block line wave gap h is.put_up;
      last_command = last_opened r.own r.last_command line c wave gap h is_opening is.last_command;
    }
