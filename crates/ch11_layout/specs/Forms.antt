-- The form of a recorded message, by its command words (MIL-STD-1553B 4.3.3.6).
use Rattle.std.specs.Prelude.{ℕ, ◌==◌, Bool, not, ◌&&◌, if◌then◌else◌}
use Rattle.mil_word.specs.Fields.{address_of, sub_of, code_of, count_of, is_broadcast, is_transmit, is_mode, is_receive}
use Rattle.ch11_layout.specs.Stamps.{Recorded}
use Rattle.ch11_layout.specs.Layouts.{word_of, first_word, commands_in}
use Rattle.ch11_layout.specs.declared.forms.RecordedForm.{RecordedForm}
use Rattle.ch11_layout.specs.declared.forms.RecordedForm.TheVariants.{Receive, Transmit, Between, Mode}
use Rattle.ch11_layout.specs.declared.forms.RecordedForm.TheVariants.{ReceiveAll, BetweenAll, ModeAll, Unknown}

-- a mode command, to one terminal or to all (4.3.3.6.4 to 4.3.3.6.7)
abbrev pub mode_form : ℕ → RecordedForm
mode_form command =
    if is_broadcast command then ModeAll (sub_of command) (is_transmit command) (code_of command)
    else Mode (address_of command) (sub_of command) (is_transmit command) (code_of command)

-- a message with one command (4.3.3.6.1, 4.3.3.6.2, 4.3.3.6.7); nobody may transmit for all
abbrev pub form_of_one : ℕ → RecordedForm
form_of_one command =
    if is_mode command then mode_form command
    else if is_receive command && is_broadcast command then ReceiveAll (sub_of command) (count_of command)
    else if is_receive command then Receive (address_of command) (sub_of command) (count_of command)
    else if is_broadcast command then Unknown
    else Transmit (address_of command) (sub_of command) (count_of command)

-- two commands of a transfer: to receive, and to one terminal to transmit as many words (4.3.3.6.3, 4.3.3.6.7)
abbrev pub are_transfer : ℕ → ℕ → Bool
are_transfer first second =
    is_receive first && not (is_mode second) && is_transmit second && not (is_broadcast second)
    && (count_of first == count_of second)

abbrev pub form_of_two : ℕ → ℕ → RecordedForm
form_of_two first second =
    if not (are_transfer first second) then Unknown
    else if is_broadcast first then BetweenAll (address_of second) (sub_of second) (sub_of first) (count_of first)
    else Between (address_of second) (sub_of second) (address_of first) (sub_of first) (count_of first)

abbrev pub form_of : Recorded → RecordedForm
form_of m =
    if commands_in m == 0 then Unknown
    else if commands_in m == 1 then form_of_one (first_word m)
    else form_of_two (first_word m) (word_of m.bytes 1)
