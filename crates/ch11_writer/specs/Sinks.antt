-- What the sinks of this crate hold.
use Rattle.std.specs.Prelude.{ℕ, List, [], Bool, false}

-- a sink in memory
pub record Memory : Type 0 where
  pub bytes : List ℕ
  pub failures : ℕ
  pub finished : Bool

-- a sink in memory that takes what its rule lets it take
pub record Ruled (R : Type 0) : Type 0 where
  pub held : Memory
  pub rule : R

-- such a sink, where it has taken nothing and has not failed
abbrev pub empty_under : {R : Type 0} → R → Ruled R
empty_under rule = record { held = record { bytes = []; failures = 0; finished = false }; rule = rule }

-- a sink over a writer of the standard library
pub record Device (W : Type 0) : Type 0 where
  pub writer : W
  pub failures : ℕ
  pub finished : Bool
