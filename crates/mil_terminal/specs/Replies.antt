-- The reply of a terminal (MIL-STD-1553B 4.3.3.6, 4.3.3.8), as a query on its history.
use Rattle.std.specs.Prelude.{ℕ, ◌-◌, ◌==◌, List, [], ◌∷◌, ◌++◌, Option, Some, None, if◌then◌else◌}
use Rattle.std.specs.Prelude.{take, length, replicate}
use Rattle.mil_word.specs.declared.Line.{Line}
use Rattle.mil_word.specs.Fields.{is_transmit, sub_of, code_of, count_of, is_mode, wrap_around}
use Rattle.mil_mode.specs.Codes.{transmit_vector_word, transmit_last_command, transmit_bit_word}
use Rattle.mil_terminal.specs.declared.events.Event.TheVariants.{Quiet}
use Rattle.mil_terminal.specs.declared.replies.Reply.{Reply}
use Rattle.mil_terminal.specs.History.{History}
use Rattle.mil_terminal.specs.Host.{is_busy, is_off, response_gap}
use Rattle.mil_terminal.specs.Windows.{Ended, ended_by}
use Rattle.mil_terminal.specs.Verdicts.{verdict, is_good}
use Rattle.mil_terminal.specs.Registers.{received, vector, bit_word, last_command}
use Rattle.mil_terminal.specs.PutUp.{words_put_up}
use Rattle.mil_terminal.specs.Status.{status}
pub use Rattle.mil_terminal.specs.Answers.{is_answered}

-- the words that a transmit command sends: those that the host put up, and at subaddress 30, which wraps around,
-- those that were received there (Notice 2)
unfoldable pub transmit_words : ℕ → ℕ → History → List ℕ
transmit_words own sub h = if sub == wrap_around then received own wrap_around h else words_put_up own sub h

-- the first words, so many, with zeros where there are fewer
abbrev pub exactly : ℕ → List ℕ → List ℕ
exactly n words = take n words ++ replicate (n - length words) 0

-- the data word that a mode command is answered with, if one; h is the history before the quiet that ends its window
abbrev pub mode_data : ℕ → ℕ → History → List ℕ
mode_data own code h =
    if code == transmit_last_command then last_command own h ∷ []
    else if is_busy h then []
    else if code == transmit_vector_word then vector h ∷ []
    else if code == transmit_bit_word then bit_word own h ∷ []
    else []

-- the data words that follow the status where the window was good: a busy terminal sends the status alone, but for
-- the last command (4.3.3.5.3.8)
abbrev pub data_sent : ℕ → ℕ → History → List ℕ
data_sent own c h =
    if is_transmit c
    then (if is_mode c then mode_data own (code_of c) h
    else if is_busy h then []
    else exactly (count_of c) (transmit_words own (sub_of c) h))
    else []

-- the status, alone where the command was illegal, at the host's response time
abbrev pub answer_to : ℕ → Ended → History → Reply
answer_to own e h = record {
  gap = response_gap h;
  words = record {
    items = status own h
        ∷ (if is_good (verdict own e) then data_sent own e.window.command e.before else []);
  };
}

abbrev pub reply_to : ℕ → Option Ended → History → Option Reply
reply_to own None h = None
reply_to own (Some e) h = if is_answered own e then Some (answer_to own e h) else None

-- what is answered, by its gap, where there is one, and its words
abbrev pub reply_if : Option ℕ → List ℕ → Option Reply
reply_if None words = None
reply_if (Some gap) words = Some (record { gap = gap; words = record { items = words } })

-- the reply to a quiet on a line after this history: none while the terminal is off
unfoldable pub reply : ℕ → Line → History → Option Reply
reply own line past = if is_off past then None else reply_to own (ended_by own (Quiet line) past) (Quiet line ∷ past)
