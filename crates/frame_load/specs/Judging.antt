-- What the loader answers: the program of an image that keeps all rules, else the first rule that it breaks (own
-- choice).
use Rattle.std.specs.Prelude.{◌≡◌, ℕ, ◌≤◌, ◌^◌, List, get_or, Result, Ok, Err, length}
use Rattle.frame_code.specs.Table.{Code}
use Rattle.frame_code.specs.Routines.{routines, begin_of}
use Rattle.frame_code.specs.Loadable.{EndsInHalt, HasRoutines, IsNested, GoesWell, HasMessage, Each, IsLoadable}
use Rattle.frame_load.specs.Budget.{budget, worst_messages, periods}
use Rattle.frame_load.specs.declared.error.LoadError.{LoadError}
use Rattle.frame_load.specs.declared.error.LoadError.TheVariants.{End, Routines, Nesting, Jumps, Messages, Budget}
use Rattle.frame_load.specs.declared.error.LoadError.TheVariants.{Periods}
use Rattle.frame_load.specs.declared.error.LoadError.TheVariants.{Memory}

-- at most 100,000,000 steps and 1,000,000 messages
abbrev pub IsWithin : Code → Type 0
IsWithin code = (budget code.operations ≤ 100000000) × (worst_messages code.operations ≤ 1000000)

-- all periods together are at most 2^46 ticks
abbrev pub HasShortPeriods : Code → Type 0
HasShortPeriods code = periods code.operations ≤ 2 ^ 46

-- what a program keeps: a code that may run, where its routines begin, the number of its main part, and its two sums
pub record IsProgram (code : Code) (starts : List ℕ) (main steps messages : ℕ) : Type 0 where
  pub loadable : IsLoadable code
  pub within : IsWithin code
  pub short : HasShortPeriods code
  pub starts_are : (r : ℕ) → r ≤ routines code.operations → get_or starts r 0 ≡ begin_of code.operations r
  pub main_is : main ≡ routines code.operations
  pub steps_are : steps ≡ budget code.operations
  pub messages_are : messages ≡ worst_messages code.operations

-- this is the first rule that the code breaks
abbrev pub Refuses : Code → LoadError → Type 0
Refuses code End = ¬ EndsInHalt code.operations
Refuses code Routines = EndsInHalt code.operations × ¬ HasRoutines code.operations
Refuses code Nesting = EndsInHalt code.operations × HasRoutines code.operations × ¬ IsNested code.operations
Refuses code Jumps = EndsInHalt code.operations × HasRoutines code.operations × IsNested code.operations
    × ¬ Each code.operations (GoesWell code.operations)
Refuses code Messages =
    EndsInHalt code.operations × HasRoutines code.operations × IsNested code.operations
    × Each code.operations (GoesWell code.operations)
    × ¬ Each code.operations (λ p. HasMessage (length code.messages))
Refuses code Budget = IsLoadable code × ¬ IsWithin code
Refuses code Periods = IsLoadable code × IsWithin code × ¬ HasShortPeriods code
Refuses code Memory = ⊥

abbrev pub Judges : Code → Result Code LoadError → Type 0
Judges code (Ok program) = (program ≡ code) × IsLoadable code × IsWithin code × HasShortPeriods code
Judges code (Err e) = Refuses code e
