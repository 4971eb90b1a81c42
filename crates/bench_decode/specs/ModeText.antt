-- What a mode command asks, in words (MIL-STD-1553B 4.3.3.5.1.7 and its table I, with Notice 2).
use Rattle.std.specs.Prelude.{ℕ, min, ◌==◌, Bool, true, false, if◌then◌else◌, List, codes}
use Rattle.mil_mode.specs.declared.ModeRow.{ModeRow}
use Rattle.mil_mode.specs.declared.ModeRow.TheVariants.{Known, Reserved, Undefined}
use Rattle.mil_mode.specs.Codes.{dynamic_bus_control, synchronize, transmit_status_word, initiate_self_test}
use Rattle.mil_mode.specs.Codes.{transmitter_shutdown, override_shutdown, inhibit_terminal_flag, override_inhibit}
use Rattle.mil_mode.specs.Codes.{reset_remote_terminal, transmit_vector_word, synchronize_with_word}
use Rattle.mil_mode.specs.Codes.{transmit_last_command, transmit_bit_word, selected_shutdown}
use Rattle.mil_mode.specs.Codes.{override_selected_shutdown, last_code}
use Rattle.mil_mode.specs.Table.{row_of}

-- a pair without a name: whether the standard keeps it for later, with its T/R bit
abbrev pub unnamed_text : ModeRow → Bool → List ℕ
unnamed_text Reserved true = codes "reserved, T/R 1"
unnamed_text Reserved false = codes "reserved, T/R 0"
unnamed_text Known true = codes "undefined, T/R 1"
unnamed_text Known false = codes "undefined, T/R 0"
unnamed_text Undefined true = codes "undefined, T/R 1"
unnamed_text Undefined false = codes "undefined, T/R 0"

abbrev pub other_text : Bool → ℕ → List ℕ
other_text transmit code = unnamed_text (row_of transmit (min code last_code)) transmit

-- T/R 1
abbrev pub transmit_text : ℕ → List ℕ
transmit_text code =
    if code == dynamic_bus_control then codes "dynamic bus control"
    else if code == synchronize then codes "synchronize"
    else if code == transmit_status_word then codes "transmit status word"
    else if code == initiate_self_test then codes "initiate self test"
    else if code == transmitter_shutdown then codes "transmitter shutdown"
    else if code == override_shutdown then codes "override transmitter shutdown"
    else if code == inhibit_terminal_flag then codes "inhibit terminal flag"
    else if code == override_inhibit then codes "override inhibit terminal flag"
    else if code == reset_remote_terminal then codes "reset remote terminal"
    else if code == transmit_vector_word then codes "transmit vector word"
    else if code == transmit_last_command then codes "transmit last command"
    else if code == transmit_bit_word then codes "transmit BIT word"
    else other_text true code

-- T/R 0
abbrev pub receive_text : ℕ → List ℕ
receive_text code =
    if code == synchronize_with_word then codes "synchronize with data"
    else if code == selected_shutdown then codes "selected transmitter shutdown"
    else if code == override_selected_shutdown then codes "override selected transmitter shutdown"
    else other_text false code

unfoldable pub mode_text : Bool → ℕ → List ℕ
mode_text true code = transmit_text code
mode_text false code = receive_text code
