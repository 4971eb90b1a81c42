-- Which histories the registers of a terminal stand for (inside the terminal).
use Rattle.std.specs.Prelude.{◌≡◌, ℕ, ◌+◌, ◌*◌, ◌<◌, ◌≤◌, Bool, not, List, [], Option, Some, None, slice_index_or}
use Rattle.std.specs.Prelude.{length}
use Rattle.mil_word.specs.declared.Line.{Line}
use Rattle.mil_word.specs.declared.Line.TheVariants.{A, B}
use Rattle.mil_word.specs.Fields.{field_values, most_words}
use Rattle.mil_terminal.specs.declared.events.Event.{Event}
use Rattle.mil_terminal.specs.History.{History}
use Rattle.mil_terminal.specs.Host.{is_busy, has_subsystem_fault, has_fault, accepts_control, self_test, response_gap}
use Rattle.mil_terminal.specs.Host.{is_gap_set, host_bit, takes_broadcast, is_off, is_marked_illegal, is_mode_marked}
use Rattle.mil_terminal.specs.Host.{is_deaf, is_mute}
use Rattle.mil_terminal.specs.Service.{requests_service, waits_once}
use Rattle.mil_terminal.specs.PutUp.{source_at, word_put_up, count_put_up, added}
use Rattle.mil_terminal.specs.Windows.{latest_window, undecided}
use Rattle.mil_terminal.specs.Registers.{last_command, received, received_from_all, sync_word, bit_word, vector}
use Rattle.mil_terminal.specs.Registers.{is_transmitter_on, is_flag_inhibited}
use Rattle.mil_terminal.specs.Slots.{slot_count, put_up_slots, added_slots, ramp_slots}
use Rattle.mil_terminal.specs.Status.{conditions}
use Rattle.mil_terminal.specs.Marking.{is_set, is_mode_set}
use Rattle.mil_terminal.specs.ByLines.{on_line}
use Rattle.mil_terminal.specs.Placing.{ramp_in}
use Rattle.mil_terminal.specs.Phases.{IsPending, window_of}
use Rattle.mil_terminal.specs.declared.pending.Pending.{Pending}
use Rattle.mil_terminal.specs.declared.switches.Switches.{Switches}
use Rattle.mil_terminal.specs.declared.synced.Synced.{Synced}
use Rattle.mil_terminal.specs.declared.host.Settings.{Settings}
use Rattle.mil_terminal.specs.declared.registers.Registers.{Registers}

-- what the host has set
pub record AreSettings (own : ℕ) (s : Settings) (h : History) : Type 0 where
  pub busy : s.busy ≡ is_busy h
  pub service : s.service ≡ requests_service own h
  pub once : s.once ≡ waits_once own h
  pub subsystem : s.subsystem ≡ has_subsystem_fault h
  pub fault : s.fault ≡ has_fault h
  pub control : s.control ≡ accepts_control h
  pub vector : s.vector ≡ vector h
  pub self_test : s.self_test ≡ self_test h
  pub response : s.response ≡ response_gap h
  pub by_gap : s.by_gap ≡ is_gap_set h
  pub bit : s.bit ≡ host_bit h
  pub broadcast : s.broadcast ≡ takes_broadcast h
  pub off : s.off ≡ is_off h
  pub marks : (t : Bool) (sub n : ℕ) → 1 ≤ sub → sub < field_values → 1 ≤ n → n ≤ most_words
      → is_set s.marks t sub n ≡ is_marked_illegal t sub n h
  pub modes : (t : Bool) (code : ℕ) → code < field_values → is_mode_set s.marks t code ≡ is_mode_marked t code h
  pub deaf : (line : Line) → on_line s.deaf line ≡ is_deaf line h
  pub mute : (line : Line) → on_line s.mute line ≡ is_mute line h

-- what codes 4 to 8 have switched
pub record AreSwitches (own : ℕ) (s : Switches) (h : History) : Type 0 where
  pub on_a : not s.off_a ≡ is_transmitter_on own A h
  pub on_b : not s.off_b ≡ is_transmitter_on own B h
  pub inhibited : s.inhibited ≡ is_flag_inhibited own h

-- the sync word and the BIT word
pub record AreSynced (own : ℕ) (s : Synced) (h : History) : Type 0 where
  pub sync : s.sync_word ≡ sync_word own h
  pub bit : s.bit_word ≡ bit_word own h

-- the words that were received
pub record AreReceived (own : ℕ) (block : List (List ℕ)) (h : History) : Type 0 where
  pub addressed : (sub : ℕ) → sub < field_values → slice_index_or block sub [] ≡ received own sub h
  pub from_all : (sub : ℕ) → sub < field_values
      → slice_index_or block (field_values + sub) [] ≡ received_from_all own sub h

-- the words that the host put up, and the ramps among them
pub record ArePutUp (own : ℕ) (block : List (List ℕ)) (h : History) : Type 0 where
  pub long : length block ≡ slot_count
  pub count : (sub : ℕ) → sub < field_values
      → length (slice_index_or block (put_up_slots + sub) []) ≡ count_put_up sub h
  pub words : (sub place : ℕ) → sub < field_values
      → slice_index_or (slice_index_or block (put_up_slots + sub) []) place 0 ≡ word_put_up own sub place h
  pub ramps : (sub place : ℕ) → sub < field_values → ramp_in block sub place ≡ added (source_at sub place h)

-- the window that is not decided yet
abbrev pub IsOpen : ℕ → Option Pending → History → Type 0
IsOpen own None h = undecided own (latest_window own h) ≡ None
IsOpen own (Some p) h = (items : List Event) × (latest_window own h ≡ Some (window_of p items)) × IsPending own p items

-- the registers stand for this history: each is what the history says
pub record StandsFor (r : Registers) (h : History) : Type 0 where
  pub window : IsOpen r.own r.window h
  pub settings : AreSettings r.own r.host h
  pub conditions : r.conditions ≡ conditions r.own h
  pub switches : AreSwitches r.own r.switches h
  pub synced : AreSynced r.own r.synced h
  pub received : AreReceived r.own r.block h
  pub put_up : ArePutUp r.own r.block h
  pub last_command : r.last_command ≡ last_command r.own h
