-- What one more event does to the windows of a history.
use Rattle.std.proofs.Common.{◌≡◌, ℕ, zero, suc, List, [], ◌∷◌, ◌++◌, refl, ap, sym, ◌∙◌, append-nil}
use Rattle.std.specs.Prelude.{Bool, true, false, Option, Some, None, if◌then◌else◌, unwrap_or}
use Rattle.std.specs.Option.{option_map, option_and_then}
use Rattle.std.specs.List.{filter, find}
use Rattle.std.proofs.lemmas.List.Elements.{filter-append}
use Rattle.mil_word.specs.declared.Line.{Line}
use Rattle.mil_host.specs.declared.actions.Action.{Action}
use Rattle.mil_terminal.specs.declared.events.Event.{Event}
use Rattle.mil_terminal.specs.declared.events.Event.TheVariants.{Heard, Quiet, Host}
use Rattle.mil_terminal.specs.History.{History}
use Rattle.mil_terminal.specs.Host.{turns_on, is_power_on}
use Rattle.mil_terminal.specs.Windows.{Window, Ended, opening, latest_opening, since_opening, latest_window, has_quiets, quiets_due, is_decided, is_on, undecided, ended_by, ended}
use Rattle.mil_terminal.specs.Registers.{latest}
use Rattle.mil_terminal.specs.declared.pending.Phase.{Phase}
use Rattle.mil_terminal.specs.declared.pending.Phase.TheVariants.{Start, Taking, Called, Waiting, LostTransfer, Lost}
use Rattle.mil_terminal.specs.declared.pending.Pending.{Pending}
use Rattle.mil_terminal.specs.Phases.{IsPending, window_of, quiets_left}

-- ---- windows

abbrev pub with_item : Event → Window → Window
with_item e w = record { line = w.line; command = w.command; items = w.items ++ filter (is_on w.line) (e ∷ []) }

-- a word that opens a window turns nothing on
opens-on : (own : ℕ) (e : Event) (past : History) (o : Line × ℕ) → opening own e past ≡ Some o → is_power_on e ≡ false
opens-on own (Heard line wave gap) past o h = refl
opens-on own (Quiet line) past o h = cc
opens-on own (Host action) past o h = cc

-- no window is left when the terminal is turned on
none_on : (own : ℕ) (e : Event) (past : History) → is_power_on e ≡ true → latest_window own (e ∷ past) ≡ None
unfolding latest_window
none_on own e past on = rw on refl

pub window_on : (own : ℕ) (e : Event) (past : History) → is_power_on e ≡ false → opening own e past ≡ None
    → latest_window own (e ∷ past) ≡ option_map (with_item e) (latest_window own past)
unfolding latest_window
window_on own e past on h = rw (on, h) (go (latest_opening own past))
  where
    go : (o : Option (Line × ℕ)) → option_map (λ (o : Line × ℕ). record { line = o.0; command = o.1; items = filter (is_on o.0) (since_opening own past ++ e ∷ []) }) o
        ≡ option_map (with_item e) (option_map (λ (o : Line × ℕ). record { line = o.0; command = o.1; items = filter (is_on o.0) (since_opening own past) }) o)
    go None = refl
    go (Some o) = ap (λ (items : List Event). Some (record { line = o.0; command = o.1; items = items })) (filter-append (is_on o.0) (since_opening own past) (e ∷ []))

pub window_opened : (own : ℕ) (e : Event) (past : History) (o : Line × ℕ) → opening own e past ≡ Some o → latest_window own (e ∷ past) ≡ Some (record { line = o.0; command = o.1; items = [] })
unfolding latest_window
window_opened own e past o h = rw (opens-on own e past o h, h) refl

quiets_stay : (n : ℕ) (items more : List Event) → has_quiets n items ≡ true → has_quiets n (items ++ more) ≡ true
quiets_stay zero items more h = refl
quiets_stay (suc n) [] more h = cc
quiets_stay (suc n) (Quiet line ∷ items) more h = quiets_stay n items more h
quiets_stay (suc n) (Heard line wave gap ∷ items) more h = quiets_stay (suc n) items more h
quiets_stay (suc n) (Host action ∷ items) more h = quiets_stay (suc n) items more h

decided_stays : (own : ℕ) (line : Line) (command : ℕ) (items more : List Event) → is_decided own (record { line = line; command = command; items = items }) ≡ true
    → is_decided own (record { line = line; command = command; items = items ++ more }) ≡ true
decided_stays own line command [] more h = cc
decided_stays own line command (Quiet l ∷ items) more h = quiets_stay (quiets_due own (record { line = line; command = command; items = Quiet l ∷ items })) (Quiet l ∷ items) more h
decided_stays own line command (Heard l wave gap ∷ items) more h = quiets_stay (quiets_due own (record { line = line; command = command; items = Heard l wave gap ∷ items })) (Heard l wave gap ∷ items) more h
decided_stays own line command (Host action ∷ items) more h = quiets_stay (quiets_due own (record { line = line; command = command; items = Host action ∷ items })) (Host action ∷ items) more h

undecided_if : (own : ℕ) (w : Window) (b : Bool) → is_decided own w ≡ b → undecided own (Some w) ≡ (if b then None else Some w)
undecided_if own w b h = rw h refl

-- a window that was decided stays so
pub stays_decided : (own : ℕ) (e : Event) (past : History) → opening own e past ≡ None → undecided own (latest_window own past) ≡ None → undecided own (latest_window own (e ∷ past)) ≡ None
stays_decided own e past h is = turned (is_power_on e) refl
  where
    go2 : (w : Window) (b : Bool) → is_decided own w ≡ b → (if b then None else Some w) ≡ None → undecided own (Some (with_item e w)) ≡ None
    go2 w true done k = undecided_if own (with_item e w) true (decided_stays own w.line w.command w.items (filter (is_on w.line) (e ∷ [])) done)
    go2 w false done k = cc

    go : (w : Option Window) → undecided own w ≡ None → undecided own (option_map (with_item e) w) ≡ None
    go None k = refl
    go (Some w) k = go2 w (is_decided own w) refl k

    turned : (b : Bool) → is_power_on e ≡ b → undecided own (latest_window own (e ∷ past)) ≡ None
    turned true on = rw (none_on own e past on) refl
    turned false on = rw (window_on own e past on h) (go (latest_window own past) is)

-- ---- ends

pub nothing_open : (own : ℕ) (e : Event) (past : History) → undecided own (latest_window own past) ≡ None → ended_by own e past ≡ None
unfolding ended_by
nothing_open own e past h = rw h refl

pub still_open : (own : ℕ) (e : Event) (past : History) (w v : Window) → opening own e past ≡ None → latest_window own past ≡ Some w → latest_window own (e ∷ past) ≡ Some v
    → is_decided own w ≡ false → is_decided own v ≡ false → ended_by own e past ≡ None
unfolding ended_by
still_open own e past w v not_opening was now open_before open_now = rw (was, now, not_opening, open_before, open_now) refl

pub ends_by_quiet : (own : ℕ) (e : Event) (past : History) (w v : Window) → opening own e past ≡ None → latest_window own past ≡ Some w → latest_window own (e ∷ past) ≡ Some v
    → is_decided own w ≡ false → is_decided own v ≡ true → ended_by own e past ≡ Some (record { window = v; by_quiet = true; before = past })
unfolding ended_by
ends_by_quiet own e past w v not_opening was now open_before decided_now = rw (was, now, not_opening, open_before, decided_now) refl

pub cut_short : (own : ℕ) (e : Event) (past : History) (w : Window) (o : Line × ℕ) → opening own e past ≡ Some o → latest_window own past ≡ Some w
    → is_decided own w ≡ false → ended_by own e past ≡ Some (record { window = w; by_quiet = false; before = past })
unfolding ended_by
cut_short own e past w o is_opening was open_before = rw (was, is_opening, open_before) refl

none_yet : (own command : ℕ) (phase : Phase) → has_quiets (quiets_left own phase command []) [] ≡ false
none_yet own command Start = refl
none_yet own command Taking = refl
none_yet own command (Called sender) = refl
none_yet own command (Waiting sender) = refl
none_yet own command LostTransfer = refl
none_yet own command Lost = refl

pub is_undecided : (own : ℕ) (p : Pending) (items : List Event) → IsPending own p items → is_decided own (window_of p items) ≡ false
is_undecided own p items is = rw append-nil at (is.quiets []) ∙ none_yet own p.command p.phase

-- ---- what the latest window says

-- no window ends when the terminal is turned on
ends_none_on : (own : ℕ) (action : Action) (past : History) → turns_on action ≡ true → ended_by own (Host action) past ≡ None
unfolding ended_by
ends_none_on own action past on = rw (none_on own (Host action) past on) (none (undecided own (latest_window own past)))
  where
    none : (v : Option Window) → option_and_then (λ (w : Window). let n : Option Ended = None in n) v ≡ None
    none None = refl
    none (Some w) = refl

-- so an event that ends a window does not turn it on
ends-on : (own : ℕ) (e : Event) (past : History) (w : Ended) → ended_by own e past ≡ Some w → is_power_on e ≡ false
ends-on own (Heard line wave gap) past w h = refl
ends-on own (Quiet line) past w h = refl
ends-on own (Host action) past w h = go (turns_on action) refl
  where
    go : (b : Bool) → turns_on action ≡ b → is_power_on (Host action) ≡ false
    go false on = on
    go true on = let wrong = sym (ends_none_on own action past on) ∙ h in cc

pub latest_none : {X : Type 0} (own : ℕ) (test : Ended → Bool) (asked : Ended → X) (first : X) (e : Event) (past : History) → is_power_on e ≡ false → ended_by own e past ≡ None
    → latest own test asked first (e ∷ past) ≡ latest own test asked first past
unfolding ended
latest_none own test asked first e past on h = rw (on, h) refl

pub latest_some : {X : Type 0} (own : ℕ) (test : Ended → Bool) (asked : Ended → X) (first : X) (e : Event) (past : History) (w : Ended) → ended_by own e past ≡ Some w
    → latest own test asked first (e ∷ past) ≡ (if test w then asked w else latest own test asked first past)
unfolding ended
latest_some {X} own test asked first e past w h = rw (ends-on own e past w h, h) (go (test w))
  where
    go : (b : Bool) → unwrap_or (option_map asked (if b then Some w else find test (ended own past))) first ≡ (if b then asked w else unwrap_or (option_map asked (find test (ended own past))) first)
    go true = refl
    go false = refl
