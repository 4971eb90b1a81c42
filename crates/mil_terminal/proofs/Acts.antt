-- Registers that stand for a history, at first and after an action of the host.
use Rattle.std.proofs.Common.{◌≡◌, ℕ, ◌+◌, ◌<◌, ◌≤◌, List, [], ◌∷◌, refl, ap, sym, ◌∙◌, append-nil, arith, replicate}
use Rattle.std.proofs.lemmas.List.{get_or-replicate}
use Rattle.std.specs.Prelude.{Bool, true, false, Option, Some, None, unwrap_or, length, slice_index_or}
use Rattle.std.specs.Option.{option_map}
use Rattle.mil_word.specs.declared.Line.{Line}
use Rattle.mil_host.specs.declared.actions.Action.{Action}
use Rattle.mil_host.specs.declared.actions.Action.TheVariants.{Power}
use Rattle.mil_terminal.specs.declared.events.Event.{Event}
use Rattle.mil_terminal.specs.declared.events.Event.TheVariants.{Host}
use Rattle.mil_terminal.specs.History.{History}
use Rattle.mil_terminal.specs.Host.{told_bit, turns_on}
use Rattle.mil_terminal.specs.Windows.{latest_window, ended_by, ended, is_listening}
use Rattle.mil_terminal.specs.Registers.{received, received_from_all, sync_word, bit_word, is_transmitter_on, is_flag_inhibited, last_command}
use Rattle.mil_terminal.specs.Status.{conditions, no_conditions}
use Rattle.mil_terminal.specs.declared.host.Settings.{Settings}
use Rattle.mil_terminal.specs.declared.pending.Pending.{Pending}
use Rattle.mil_terminal.specs.declared.registers.Registers.{Registers}
use Rattle.mil_terminal.specs.Phases.{window_of}
use Rattle.mil_terminal.specs.StandsFor.{AreSettings, ArePutUp, AreReceived, IsOpen, StandsFor}
use Rattle.mil_terminal.proofs.Ends.{with_item, window_on, stays_decided, nothing_open, still_open, is_undecided}
use Rattle.mil_word.specs.Words.{same_line}
use Rattle.mil_terminal.proofs.Hears.{last_same}
use Rattle.mil_terminal.proofs.Switching.{switches-none}
use Rattle.mil_terminal.proofs.Syncing.{synced-acts}
use Rattle.mil_terminal.proofs.Putting.{put_up_same}
use Rattle.mil_terminal.specs.Placing.{ramp_in}
use Rattle.mil_terminal.specs.Updates.{renewed}
use Rattle.mil_terminal.proofs.Storing.{received-none}
use Rattle.mil_terminal.proofs.Telling.{conditions-none}

-- ---- an action

-- the window stays as it is, and none ends
record Waits (r : Registers) (action : Action) (h : History) : Type 0 where
  open_now : IsOpen r.own r.window (Host action ∷ h)
  none : ended_by r.own (Host action) h ≡ None

waits : (r : Registers) (w : Option Pending) (action : Action) (h : History) → turns_on action ≡ false → IsOpen r.own w h → Waits (record r { window = w }) action h
waits r None action h on is = record { open_now = stays_decided r.own (Host action) h refl is; none = nothing_open r.own (Host action) h is }
waits r (Some p) action h on is =
    let e : Event = Host action in
    let items = is.0 in
    let now : latest_window r.own (e ∷ h) ≡ Some (window_of p items) = window_on r.own e h on refl ∙ ap (option_map (with_item e)) is.1 ∙ rw append-nil refl in
    let open_is = is_undecided r.own p items is.2 in
    record { open_now = (items, now, is.2); none = still_open r.own e h (window_of p items) (window_of p items) refl is.1 now open_is open_is }

pub acts : (r : Registers) (host : Settings) (block : List (List ℕ)) (word : ℕ) (action : Action) (h : History) → turns_on action ≡ false
    → word ≡ unwrap_or (told_bit action) r.synced.bit_word
    → AreSettings r.own host (Host action ∷ h) → ArePutUp r.own block (Host action ∷ h) → (AreReceived r.own r.block h → AreReceived r.own block h) → StandsFor r h
    → StandsFor (record r { host = host; block = block; synced = record r.synced { bit_word = word } }) (Host action ∷ h)
acts r host block word action h on word_is settings put_up same is =
    let w = waits r r.window action h on is.window in
    record {
      window = w.open_now;
      settings = settings;
      conditions = conditions-none r.own r.conditions (Host action) h on w.none is.conditions;
      switches = switches-none r.own r.switches (Host action) h on w.none is.switches;
      synced = synced-acts r.own word r.synced action h on w.none word_is is.synced;
      received = received-none r.own block (Host action) h on w.none (same is.received);
      put_up = put_up;
      last_command = last_same r.own r.last_command (Host action) h on refl is.last_command;
    }

-- the terminal is turned on
pub powers_on : (r : Registers) (host : Settings) (block : List (List ℕ)) (h : History) → AreSettings r.own host (Host (Power true) ∷ h)
    → ((slot : ℕ) → slot < 64 → slice_index_or block slot [] ≡ []) → ((slot : ℕ) → 64 ≤ slot → slice_index_or block slot [] ≡ slice_index_or r.block slot []) → length block ≡ length r.block
    → StandsFor r h → StandsFor (renewed (record r { host = host }) block) (Host (Power true) ∷ h)
unfolding latest_window conditions is_transmitter_on is_flag_inhibited received received_from_all sync_word bit_word last_command ended
powers_on r host block h settings cleared kept long is = record {
  window = refl;
  settings = settings;
  conditions = refl;
  switches = record { on_a = refl; on_b = refl; inhibited = refl };
  synced = record { sync = refl; bit = settings.bit };
  received = record { addressed = λ sub lt. cleared sub (omega arith); from_all = λ sub lt. cleared (32 + sub) (omega arith) };
  put_up = turned_on (put_up_same r.own r.block block h kept long is.put_up);
  last_command = refl;
}
  where
    turned_on : ArePutUp r.own block h → ArePutUp r.own block (Host (Power true) ∷ h)
    turned_on put_up = record { long = put_up.long; count = put_up.count; words = put_up.words; ramps = put_up.ramps }

-- ---- at first

abbrev no_lists : List (List ℕ)
no_lists = replicate 160 []

nothing : (slot : ℕ) → slot < 160 → slice_index_or no_lists slot [] ≡ []
nothing slot lt = get_or-replicate 160 slot [] [] lt

ramp_none : (sub place : ℕ) → sub < 32 → ramp_in no_lists sub place ≡ None
ramp_none sub place lt = rw (nothing (128 + sub) (omega arith)) refl

pub starts : (r : Registers) → r.window ≡ None → AreSettings r.own r.host [] → r.conditions ≡ no_conditions → r.switches ≡ record { off_a = false; off_b = false; inhibited = false }
    → r.synced ≡ record { sync_word = 0; bit_word = 0 } → r.last_command ≡ 0 → r.block ≡ replicate 160 [] → StandsFor r []
unfolding latest_window conditions is_transmitter_on is_flag_inhibited received received_from_all sync_word bit_word last_command ended
starts r window settings conditions switches synced last block = record {
  window = rw window refl;
  settings = settings;
  conditions = conditions;
  switches = rw switches (record { on_a = refl; on_b = refl; inhibited = refl });
  synced = rw synced (record { sync = refl; bit = refl });
  received = rw block (record { addressed = λ sub lt. get_or-replicate 160 sub [] [] (omega arith); from_all = λ sub lt. get_or-replicate 160 (32 + sub) [] [] (omega arith) });
  put_up = rw block (record { long = refl; count = λ sub lt. ap length (nothing (64 + sub) (omega arith)); words = λ sub place lt. ap (λ (ws : List ℕ). slice_index_or ws place 0) (nothing (64 + sub) (omega arith)); ramps = λ sub place lt. ramp_none sub place lt });
  last_command = last;
}

-- ---- listening

pub listens-none : (r : Registers) (line : Line) (h : History) → r.window ≡ None → StandsFor r h → false ≡ is_listening r.own line h
unfolding is_listening
listens-none r line h none is = let closed : IsOpen r.own None h = rw none at is.window in rw closed refl

pub listens-some : (r : Registers) (p : Pending) (line : Line) (h : History) (b : Bool) → r.window ≡ Some p → b ≡ same_line line p.line → StandsFor r h → b ≡ is_listening r.own line h
unfolding is_listening
listens-some r p line h b some same is =
    let opened : IsOpen r.own (Some p) h = rw some at is.window in
    rw (opened.1, is_undecided r.own p opened.0 opened.2) same
