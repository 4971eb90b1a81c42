-- The status word of a terminal (MIL-STD-1553B 4.3.3.5.3), as a query on its history.
use Rattle.std.specs.Prelude.{ℕ, ◌+◌, Bool, true, false, ◌&&◌, ◌||◌, not, if◌then◌else◌, List, codes, unwrap_or}
use Rattle.mil_status.specs.Status.{status_of, bit_of_name}
use Rattle.mil_word.specs.Fields.{is_broadcast}
use Rattle.mil_mode.specs.Codes.{dynamic_bus_control, inhibit_terminal_flag, override_inhibit}
use Rattle.mil_terminal.specs.declared.conditions.Conditions.{Conditions}
use Rattle.mil_terminal.specs.History.{History}
use Rattle.mil_terminal.specs.Host.{is_busy, has_subsystem_fault, accepts_control, has_fault}
use Rattle.mil_terminal.specs.Service.{requests_service}
use Rattle.mil_terminal.specs.Windows.{Ended}
use Rattle.mil_terminal.specs.Verdicts.{verdict, is_good, is_bad}
use Rattle.mil_terminal.specs.Registers.{latest, is_good_mode, is_flag_inhibited, is_question}

-- whether the terminal flag is inhibited for the status of this window: by an inhibition (6) and its override (7)
-- at once, by a reset (8) afterwards (own choice)
abbrev pub is_inhibited_for : ℕ → Ended → Bool
is_inhibited_for own e =
    if is_good_mode own true inhibit_terminal_flag e then true else if is_good_mode own true override_inhibit e
    then false
    else is_flag_inhibited own e.before

-- the conditions that a window sets when it ends
abbrev pub conditions_at : ℕ → Ended → Conditions
conditions_at own e = record {
  message_error = not (is_good (verdict own e));
  service_request = requests_service own e.before;
  broadcast = is_broadcast e.window.command;
  busy = is_busy e.before;
  subsystem = has_subsystem_fault e.before;
  control = is_good_mode own true dynamic_bus_control e && accepts_control e.before;
  terminal = has_fault e.before && not (is_inhibited_for own e);
}

abbrev pub no_conditions : Conditions
no_conditions = record {
  message_error = false;
  service_request = false;
  broadcast = false;
  busy = false;
  subsystem = false;
  control = false;
  terminal = false;
}

-- whether a window leaves the status as it was: a question, unless its host has marked it as illegal
abbrev pub leaves_status : ℕ → Ended → Bool
leaves_status own e = is_question own e.window.command && (is_good (verdict own e) || is_bad (verdict own e))

-- those of the latest ended window that does not leave the status as it was
unfoldable pub conditions : ℕ → History → Conditions
conditions own h = latest own (λ e. not (leaves_status own e)) (conditions_at own) no_conditions h

-- the bit of a condition by its name in a status word, where the condition is on
abbrev pub bit_if : Bool → List ℕ → ℕ
bit_if on name = if on then unwrap_or (bit_of_name name) 0 else 0

abbrev pub bits_of : Conditions → ℕ
bits_of s =
    bit_if s.message_error (codes "message_error") + bit_if s.service_request (codes "service_request")
    + bit_if s.broadcast (codes "broadcast")
    + bit_if s.busy (codes "busy") + bit_if s.subsystem (codes "subsystem") + bit_if s.control (codes "control")
    + bit_if s.terminal (codes "terminal")

-- the word of an address and conditions
abbrev pub status_word : ℕ → Conditions → ℕ
status_word own s = status_of own (bits_of s)

unfoldable pub status : ℕ → History → ℕ
status own h = status_word own (conditions own h)
