-- What the small state of an undecided window knows of the items so far (inside the terminal).
use Rattle.std.specs.Prelude.{◌≡◌, ℕ, ◌-◌, ◌≤◌, Bool, true, false, ◌&&◌, ◌==◌, nat_lt, List, [], ◌∷◌, ◌++◌, length}
use Rattle.std.specs.Prelude.{Option, Some, None, if◌then◌else◌}
use Rattle.std.specs.Option.{is_some}
use Rattle.std.specs.List.{filter_map}
use Rattle.mil_terminal.specs.declared.events.Event.{Event}
use Rattle.mil_word.specs.Words.{command_in, data_in}
use Rattle.mil_word.specs.Timing.{contiguous_gap}
use Rattle.mil_terminal.specs.Windows.{Window, follows_at_once, sender_called, sender_in, has_quiets}
use Rattle.mil_terminal.specs.Verdicts.{words_due, are_due_words, is_sent_by, is_answered_by, is_from, is_in_time}
use Rattle.mil_terminal.specs.Verdicts.{has_shape}
use Rattle.mil_terminal.specs.Registers.{value_of}
use Rattle.mil_terminal.specs.declared.pending.Phase.{Phase}
use Rattle.mil_terminal.specs.declared.pending.Phase.TheVariants.{Start, Taking, Called, Waiting, LostTransfer, Lost}
use Rattle.mil_terminal.specs.declared.pending.Pending.{Pending}

-- the shape that the items to come must have
abbrev pub shape_left : ℕ → Phase → ℕ → ℕ → List Event → Bool
shape_left own Start command taken more = has_shape (sender_in own command more) (words_due command) more
shape_left own Taking command taken more = are_due_words (words_due command - taken) more
shape_left own (Called sender) command taken more = is_answered_by sender (words_due command) more
shape_left own (Waiting sender) command taken more = is_sent_by sender (words_due command) more
shape_left own LostTransfer command taken more = false
shape_left own Lost command taken more = false

-- the quiets that are still to come
abbrev pub quiets_left : ℕ → Phase → ℕ → List Event → ℕ
quiets_left own Start command more = if is_some (sender_in own command more) then 2 else 1
quiets_left own Taking command more = 1
quiets_left own (Called sender) command more = 2
quiets_left own (Waiting sender) command more = 1
quiets_left own LostTransfer command more = 2
quiets_left own Lost command more = 1

-- whether the shape can still be good
abbrev pub is_alive : Phase → Bool
is_alive Start = true
is_alive Taking = true
is_alive (Called sender) = true
is_alive (Waiting sender) = true
is_alive LostTransfer = false
is_alive Lost = false

-- whether no due word was taken yet
abbrev pub is_before_words : Phase → Bool
is_before_words Start = true
is_before_words Taking = false
is_before_words (Called sender) = true
is_before_words (Waiting sender) = true
is_before_words LostTransfer = false
is_before_words Lost = false

-- the state stands for these items: it tells what any items to come make of them
pub record IsPending (own : ℕ) (p : Pending) (items : List Event) : Type 0 where
  pub few : length p.words.items ≤ words_due p.command
  pub start : p.phase ≡ Start → items ≡ []
  pub before_words : is_before_words p.phase ≡ true → p.words.items ≡ []
  pub shape : (more : List Event) → has_shape (sender_in own p.command (items ++ more)) (words_due p.command)
      (items ++ more) ≡ shape_left own p.phase p.command (length p.words.items) more
  pub quiets : (more : List Event)
      → has_quiets (if is_some (sender_in own p.command (items ++ more)) then 2 else 1) (items ++ more)
      ≡ has_quiets (quiets_left own p.phase p.command more) more
  pub words : is_alive p.phase ≡ true → filter_map value_of items ≡ p.words.items

-- the state after a word that may be due
abbrev pub with_due : Option ℕ → Pending → Pending
with_due None p = record p { phase = Lost }
with_due (Some value) p = record p { phase = Taking; words = record { items = p.words.items ++ value ∷ [] } }

abbrev pub due_value : Pending → ℕ → ℕ → Option ℕ
due_value p wave gap = if follows_at_once gap && nat_lt (length p.words.items) (words_due p.command)
    then data_in wave else None

abbrev pub with_first : Option ℕ → Pending → ℕ → ℕ → Pending
with_first None p wave gap = with_due (due_value p wave gap) p
with_first (Some sender) p wave gap = record p { phase = Called sender }

abbrev pub is_answer : ℕ → ℕ → ℕ → Bool
is_answer sender wave gap = is_from sender (command_in wave) && is_in_time gap

-- the state after one more word
abbrev pub after_word : ℕ → Pending → Phase → ℕ → ℕ → Pending
after_word own p Start wave gap = with_first (sender_called own p.command wave gap) p wave gap
after_word own p Taking wave gap = with_due (due_value p wave gap) p
after_word own p (Called sender) wave gap = record p { phase = LostTransfer }
after_word own p (Waiting sender) wave gap = record p { phase = if is_answer sender wave gap then Taking else Lost }
after_word own p LostTransfer wave gap = p
after_word own p Lost wave gap = p

-- the state after words of which the first has this gap, and the others follow at once
abbrev pub after_run : ℕ → Pending → ℕ → List ℕ → Pending
after_run own p gap [] = p
after_run own p gap (wave ∷ waves) = after_run own (after_word own p p.phase wave gap) contiguous_gap waves

-- a quiet that decides the window, with its shape; or the state after it
abbrev pub decides : Phase → Bool
decides Start = true
decides Taking = true
decides (Called sender) = false
decides (Waiting sender) = true
decides LostTransfer = false
decides Lost = true

abbrev pub shape_now : Pending → Phase → Bool
shape_now p Start = words_due p.command == 0
shape_now p Taking = words_due p.command == length p.words.items
shape_now p _ = false

abbrev pub phase_after_quiet : Phase → Phase
phase_after_quiet (Called sender) = Waiting sender
phase_after_quiet LostTransfer = Lost
phase_after_quiet Start = Start
phase_after_quiet Taking = Taking
phase_after_quiet (Waiting sender) = Waiting sender
phase_after_quiet Lost = Lost

-- the window of these items
abbrev pub window_of : Pending → List Event → Window
window_of p items = record { line = p.line; command = p.command; items = items }
