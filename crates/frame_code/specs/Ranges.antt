-- What an image may hold (own choice): how many operations and messages, and the range of each operand.
use Rattle.std.specs.Prelude.{ℕ, ◌≤◌, Bool, true, ◌&&◌, nat_lt, nat_le, List, [], ◌∷◌, length, IsTrue}
use Rattle.mil_word.specs.Timing.{least_gap}
use Rattle.frame_code.specs.declared.Op.{Op}
use Rattle.frame_code.specs.declared.Op.TheVariants.{Halt, Send, Alt, SetGap, Loop, Again, Leave, Jump, Test, JumpFalse}
use Rattle.frame_code.specs.declared.Op.TheVariants.{Call, Return, Begin, Pace}
use Rattle.frame_code.specs.declared.Image.TheInside.{Inside}
use Rattle.frame_code.specs.Table.{Code}

-- a gap in ticks, 40 to 65,535
abbrev pub is_gap : ℕ → Bool
is_gap t = nat_le least_gap t && nat_lt t 65536

-- how often a loop goes round, 1 to 10,000
abbrev pub is_count : ℕ → Bool
is_count n = nat_le 1 n && nat_le n 10000

-- the index of a message or the place of an operation, any number of two bytes
abbrev pub is_index : ℕ → Bool
is_index i = nat_lt i 65536

-- the number of a routine
abbrev pub is_routine : ℕ → Bool
is_routine r = nat_lt r 32

-- a period in hundreds of µs, 1 to 65,535
abbrev pub is_period : ℕ → Bool
is_period h = nat_le 1 h && nat_lt h 65536

-- whether the operand of an operation is in its range
abbrev pub in_range : Op → Bool
in_range Halt = true
in_range (Send m) = is_index m
in_range (Alt m) = is_index m
in_range (SetGap t) = is_gap t
in_range (Loop n) = is_count n
in_range (Again i) = is_index i
in_range (Leave i) = is_index i
in_range (Jump i) = is_index i
in_range (Test k) = true
in_range (JumpFalse i) = is_index i
in_range (Call r) = is_routine r
in_range Return = true
in_range Begin = true
in_range (Pace h) = is_period h

abbrev pub AreInRange : List Op → Type 0
AreInRange [] = Unit {0}
AreInRange (o ∷ os) = IsTrue (in_range o) × AreInRange os

-- what every image keeps
pub record IsImage (code : Code) : Type 0 where
  pub operations : length code.operations ≤ 4096
  pub messages : length code.messages ≤ 1024
  pub operands : AreInRange code.operations

abbrev pub code_in : Inside → Code
code_in i = record { operations = i.operations.items; messages = i.messages.items }
