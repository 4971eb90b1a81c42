-- What each window does to the registers (inside the terminal).
use Rattle.std.specs.Prelude.{ℕ, ◌+◌, ◌==◌, Bool, true, false, ◌&&◌, ◌||◌, not, List, [], ◌∷◌, slice_set}
use Rattle.std.specs.Prelude.{slice_index_or, if◌then◌else◌, Option, Some, None}
use Rattle.mil_word.specs.declared.Line.{Line}
use Rattle.mil_word.specs.declared.Line.TheVariants.{A, B}
use Rattle.mil_word.specs.Words.{same_line}
use Rattle.mil_word.specs.Fields.{address_of, is_broadcast, is_transmit, sub_of, code_of, count_of, is_mode}
use Rattle.mil_word.specs.Fields.{is_receive}
use Rattle.mil_word.specs.Fields.{field_values, wrap_around}
use Rattle.mil_mode.specs.Codes.{dynamic_bus_control, synchronize, initiate_self_test, transmitter_shutdown}
use Rattle.mil_mode.specs.Codes.{override_shutdown, inhibit_terminal_flag, override_inhibit, reset_remote_terminal}
use Rattle.mil_mode.specs.Codes.{transmit_vector_word, synchronize_with_word, transmit_last_command, transmit_bit_word}
use Rattle.mil_terminal.specs.Registers.{first_or_zero, is_question}
use Rattle.mil_terminal.specs.Verdicts.{is_unknown}
use Rattle.mil_terminal.specs.Windows.{transmits_data}
use Rattle.mil_terminal.specs.Marking.{is_set, is_mode_set}
use Rattle.mil_terminal.specs.Placing.{carried}
use Rattle.mil_terminal.specs.Slots.{put_up_slots}
use Rattle.mil_terminal.specs.Status.{no_conditions, status_word}
use Rattle.mil_terminal.specs.Replies.{exactly}
use Rattle.mil_terminal.specs.declared.switches.Switches.{Switches}
use Rattle.mil_terminal.specs.declared.synced.Synced.{Synced}
use Rattle.mil_terminal.specs.declared.conditions.Conditions.{Conditions}
use Rattle.mil_terminal.specs.declared.host.Settings.{Settings}
use Rattle.mil_terminal.specs.declared.pending.Pending.{Pending}
use Rattle.mil_terminal.specs.declared.pending.Phase.TheVariants.{Start}
use Rattle.mil_terminal.specs.declared.registers.Registers.{Registers}
use Rattle.mil_terminal.specs.declared.replies.Reply.{Reply}

-- whether the transmitter of this line is off
abbrev pub off_on : Switches → Line → Bool
off_on s A = s.off_a
off_on s B = s.off_b

-- whether a good command is this mode code of a transmit command
abbrev pub is_code : ℕ → ℕ → Bool
is_code c code = is_mode c && is_transmit c && code_of c == code

-- whether a transmitter is off after a good command that was heard on the other line or not
abbrev pub off_after : ℕ → Bool → Bool → Bool
off_after c heard_on_other off =
    if is_code c reset_remote_terminal then false
    else if heard_on_other && is_code c transmitter_shutdown then true
    else if heard_on_other && is_code c override_shutdown then false
    else off

abbrev pub inhibited_after : ℕ → Bool → Bool
inhibited_after c inhibited = if is_code c inhibit_terminal_flag then true else if is_code c override_inhibit
    then false else if is_code c reset_remote_terminal then false
    else inhibited

abbrev pub switched : Switches → Line → ℕ → Switches
switched s line c = record {
  off_a = off_after c (not (same_line line A)) s.off_a;
  off_b = off_after c (not (same_line line B)) s.off_b;
  inhibited = inhibited_after c s.inhibited;
}

abbrev pub inhibited_for : Switches → ℕ → Bool → Bool
inhibited_for s c good = if good && is_code c inhibit_terminal_flag then true
    else if good && is_code c override_inhibit then false else s.inhibited

abbrev pub synchronized : Synced → ℕ → List ℕ → ℕ → Synced
synchronized s c words self_test = record {
  sync_word =
      if is_mode c && not (is_transmit c) && code_of c == synchronize_with_word then first_or_zero words
      else if is_code c synchronize then 0
      else if is_code c reset_remote_terminal then 0
      else s.sync_word;
  bit_word = if is_code c initiate_self_test then self_test else s.bit_word;
}

-- the slot of a receive command's words
abbrev pub slot_of : ℕ → ℕ
slot_of c = if is_broadcast c then field_values + sub_of c else sub_of c

abbrev pub stored : List (List ℕ) → ℕ → Bool → List ℕ → List (List ℕ)
stored block c busy words = if is_receive c && not busy then slice_set block (slot_of c) words else block

-- whether the host has marked the command
abbrev pub is_marked_now : Registers → ℕ → Bool
is_marked_now r c = if is_mode c then is_mode_set r.host.marks (is_transmit c) (code_of c)
    else is_set r.host.marks (is_transmit c) (sub_of c) (count_of c)

-- whether the command is illegal
abbrev pub is_barred : Registers → ℕ → Bool
is_barred r c = is_unknown c || is_marked_now r c

-- the conditions that a window sets
abbrev pub conditions_set : Registers → ℕ → Bool → Conditions
conditions_set r c good = record {
  message_error = not good;
  service_request = r.host.service;
  broadcast = is_broadcast c;
  busy = r.host.busy;
  subsystem = r.host.subsystem;
  control = good && is_code c dynamic_bus_control && r.host.control;
  terminal = r.host.fault && not (inhibited_for r.switches c good);
}

abbrev pub told : Registers → ℕ → Bool → Bool → Registers
told r c good asks = record r { conditions = if asks then r.conditions else conditions_set r c good }

abbrev pub acted : Registers → Line → ℕ → List ℕ → Registers
acted r line c words = record r {
  switches = switched r.switches line c;
  synced = synchronized r.synced c words r.host.self_test;
  block = stored r.block c r.host.busy words;
}

-- the registers after a window that ended by a quiet
abbrev pub settled : Registers → Line → ℕ → Bool → Bool → List ℕ → Registers
settled r line c true asks words = acted (told r c true asks) line c words
settled r line c false asks words = told r c false asks

-- what a reply to a good command ends of a service request that was asked for once
abbrev pub served : Settings → Settings
served s = record s { service = s.service && not s.once; once = false }

-- whether the reply to a good command has the vector word, and whether it has words of a subaddress
abbrev pub has_vector : Registers → ℕ → Bool
has_vector r c = is_mode c && is_transmit c && code_of c == transmit_vector_word && not r.host.busy

abbrev pub has_words : Registers → ℕ → Bool
has_words r c = transmits_data c && not r.host.busy

-- the registers after a command was answered, with its words where it was good
abbrev pub handed : Bool → Registers → ℕ → Registers
handed good r c = record r {
  host = if good && has_vector r c then served r.host else r.host;
  block = if good && has_words r c then carried r.block (sub_of c) (count_of c) else r.block;
}

-- the registers of a terminal that was turned on, from those that it had
abbrev pub renewed : Registers → List (List ℕ) → Registers
renewed r block = record {
  own = r.own;
  window = None;
  host = r.host;
  conditions = no_conditions;
  switches = record { off_a = false; off_b = false; inhibited = false };
  synced = record { sync_word = 0; bit_word = r.host.bit };
  last_command = 0;
  block = block;
}

-- a window that another one cuts short
abbrev pub cut : Option Pending → Registers → Registers
cut None r = r
cut (Some p) r = told r p.command false (is_question r.own p.command)

abbrev pub with_open_window : Registers → Line → ℕ → Registers
with_open_window r line c = record (cut r.window r) {
  window = Some (record { line = line; command = c; phase = Start; words = record { items = [] } });
  last_command = if is_question r.own c && code_of c == transmit_last_command then r.last_command else c;
}

-- ---- the reply

abbrev pub put_up_at : Registers → ℕ → List ℕ
put_up_at r sub = if sub == wrap_around then slice_index_or r.block wrap_around []
    else slice_index_or r.block (put_up_slots + sub) []

abbrev pub mode_data_now : Registers → ℕ → List ℕ
mode_data_now r code =
    if code == transmit_last_command then r.last_command ∷ []
    else if r.host.busy then []
    else if code == transmit_vector_word then r.host.vector ∷ []
    else if code == transmit_bit_word then r.synced.bit_word ∷ []
    else []

abbrev pub data_now : Registers → ℕ → List ℕ
data_now r c =
    if is_transmit c
    then (if is_mode c then mode_data_now r (code_of c)
    else if r.host.busy then []
    else exactly (count_of c) (put_up_at r (sub_of c)))
    else []

abbrev pub answer_now : Registers → ℕ → Bool → Reply
answer_now r c good = record {
  gap = r.host.response;
  words = record { items = status_word r.own r.conditions ∷ (if good then data_now r c else []) };
}

-- ---- a window that its last quiet ends, of good shape or not

-- the words of the window that is open
abbrev pub words_open : Option Pending → List ℕ
words_open None = []
words_open (Some p) = p.words.items

-- that window, by its line and its command
abbrev pub ending : Registers → Line → ℕ → Pending
ending r line c = record { line = line; command = c; phase = Start; words = record { items = words_open r.window } }

-- the registers without it
abbrev pub shut : Registers → Registers
shut r = record r { window = None }

abbrev pub is_good_end : Registers → Pending → Bool → Bool
is_good_end r p shape = shape && not (is_barred r p.command)

abbrev pub asks_at_end : Registers → Pending → Bool → Bool
asks_at_end r p shape = is_question r.own p.command && not (shape && is_barred r p.command)

-- the registers before the reply
abbrev pub told_end : Registers → Pending → Bool → Registers
told_end r p shape = settled r p.line p.command (is_good_end r p shape) (asks_at_end r p shape) p.words.items

abbrev pub answers_end : Registers → Pending → Bool → Bool
answers_end r p shape = shape && address_of p.command == r.own && not (off_on r.switches p.line)

abbrev pub end_answer : Registers → Pending → Bool → Option Reply
end_answer r p shape = if answers_end r p shape
    then Some (answer_now (told_end r p shape) p.command (is_good_end r p shape)) else None

-- and after it
abbrev pub after_end : Registers → Pending → Bool → Registers
after_end r p shape = handed (is_good_end r p shape && answers_end r p shape) (told_end r p shape) p.command
