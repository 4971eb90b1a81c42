-- What contracts see of an action's values.
use Rattle.std.specs.Prelude.{ℕ, Bool, List}

-- words that the host puts up at a subaddress
pub record PutUp : Type 0 where
  pub sub : ℕ
  pub words : List ℕ

-- a direction, a subaddress and a count of data words
pub record Marked : Type 0 where
  pub transmit : Bool
  pub sub : ℕ
  pub count : ℕ

-- a direction and a mode code
pub record ModeMarked : Type 0 where
  pub transmit : Bool
  pub code : ℕ

-- a word that changes with each reply that carries it: the subaddress and the place where it stands, with what it
-- begins, and what is added each time
pub record Ramped : Type 0 where
  pub sub : ℕ
  pub index : ℕ
  pub start : ℕ
  pub add : ℕ

-- the gaps of replies that a host may set, in ticks of 0.1 µs: longer than that of contiguous words, and at most the
-- longest that a record tells apart (own choice)
abbrev pub least_set_gap : ℕ
least_set_gap = 21

abbrev pub most_set_gap : ℕ
most_set_gap = 255
