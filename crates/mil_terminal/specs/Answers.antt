-- Which windows a terminal answers, and with which of its words (MIL-STD-1553B 4.3.3.6, 4.4.3.3 to 4.4.3.6).
use Rattle.std.specs.Prelude.{ℕ, Bool, true, false, ◌&&◌, not, ◌==◌, nat_lt, Option, Some, None}
use Rattle.mil_word.specs.declared.Line.{Line}
use Rattle.mil_word.specs.Fields.{address_of, sub_of, count_of}
use Rattle.mil_mode.specs.Codes.{transmit_vector_word}
use Rattle.mil_terminal.specs.declared.events.Event.TheVariants.{Quiet}
use Rattle.mil_terminal.specs.History.{History}
use Rattle.mil_terminal.specs.Host.{is_busy}
use Rattle.mil_terminal.specs.Windows.{Ended, transmits_data, ended_by}
use Rattle.mil_terminal.specs.Verdicts.{verdict, is_good, is_bad}
use Rattle.mil_terminal.specs.Registers.{is_good_mode, is_transmitter_on}

-- a window is answered where it has good shape and this terminal's own address, and the transmitter of its line was on
-- before the window acted
abbrev pub is_answered : ℕ → Ended → Bool
is_answered own e = not (is_bad (verdict own e)) && address_of e.window.command == own
    && is_transmitter_on own e.window.line e.before

-- whether the reply has the vector word (16), which a busy terminal keeps back
abbrev pub gives_vector : ℕ → Ended → Bool
gives_vector own e = is_answered own e && is_good_mode own true transmit_vector_word e && not (is_busy e.before)

-- whether the reply has data words of this subaddress, and more than so many of them
abbrev pub gives_words : ℕ → ℕ → ℕ → Ended → Bool
gives_words own sub place e = is_answered own e && is_good (verdict own e) && transmits_data e.window.command
    && not (is_busy e.before) && sub_of e.window.command == sub && nat_lt place (count_of e.window.command)

abbrev pub passes : (Ended → Bool) → Option Ended → Bool
passes test None = false
passes test (Some e) = test e

-- whether a quiet on a line behind a history ends a window that passes the test
abbrev pub quiet_ends : ℕ → (Ended → Bool) → Line → History → Bool
quiet_ends own test line past = passes test (ended_by own (Quiet line) past)
