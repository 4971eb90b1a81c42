-- Whether a terminal has words to transmit (own choice): its host put some up, words that stay or a ramp, by an action
-- that is placed at the message or at one before it.
use Rattle.std.specs.Prelude.{◌≡◌, ℕ, ◌+◌, ◌*◌, ◌<◌, ◌==◌, ◌&&◌, Bool, false, nat_le, List, length, slice_index_or}
use Rattle.std.specs.Prelude.{Option, Some, None}
use Rattle.std.specs.List.{list_any}
use Rattle.mil_word.specs.Fields.{field_values}
use Rattle.mil_host.specs.declared.actions.Action.{Action}
use Rattle.mil_host.specs.declared.actions.Action.TheVariants.{Transmit, Ramp}
use Rattle.bc_machine.specs.declared.placed.Placed.{Placed}
use Rattle.bc_machine.specs.declared.placed.HostAction.{HostAction}
use Rattle.bc_machine.specs.declared.placed.HostAction.TheVariants.{Terminal, Controller}

-- the subaddress at which an action puts words up, if it puts any up
abbrev pub put_up_at : Action → Option ℕ
put_up_at (Transmit words) = Some words.sub
put_up_at (Ramp ramp) = Some ramp.sub
put_up_at _ = None

abbrev pub is_there : ℕ → Option ℕ → Bool
is_there sub None = false
is_there sub (Some at) = at == sub

-- the action puts words up at this subaddress
abbrev pub puts_up : ℕ → Action → Bool
puts_up sub action = is_there sub (put_up_at action)

-- it is done at this terminal
abbrev pub fills_at : ℕ → ℕ → HostAction → Bool
fills_at address sub (Terminal own action) = own == address && puts_up sub action
fills_at address sub (Controller asked) = false

-- before or at the message of a number
abbrev pub fills : ℕ → ℕ → ℕ → Placed → Bool
fills number address sub p = nat_le p.number number && fills_at address sub p.action

abbrev pub is_filled : ℕ → ℕ → ℕ → List Placed → Bool
is_filled number address sub actions = list_any (fills number address sub) actions

-- a number that was kept, if any, is that of this message or of one before it
abbrev pub is_reached : Option ℕ → ℕ → Bool
is_reached None number = false
is_reached (Some first) number = nat_le first number

-- for each address and subaddress the least number at which one of the actions puts words up there is kept
pub record AreFirsts (firsts : List (Option ℕ)) (actions : List Placed) : Type 0 where
  pub all : length firsts ≡ field_values * field_values
  pub told : (number address sub : ℕ) → address < field_values → sub < field_values
      → is_reached (slice_index_or firsts (field_values * address + sub) None) number
      ≡ is_filled number address sub actions
