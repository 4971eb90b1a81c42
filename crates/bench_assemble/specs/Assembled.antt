-- What a script comes to: the bytes and the sizes of its image, or the first cause for which it has none (own choice).
use Rattle.std.specs.Prelude.{ℕ, ◌≡◌, ◌||◌, nat_lt, ◌^◌, if◌then◌else◌, List, length, Result, Ok, Err}
use Rattle.frame_tree.specs.Tree.{Tree}
use Rattle.frame_text.specs.declared.faults.Cause.{Cause}
use Rattle.frame_text.specs.Frames.{tree_of_text}
use Rattle.frame_code.specs.Table.{Code}
use Rattle.frame_code.specs.Bytes.{image_bytes}
use Rattle.frame_asm.specs.Shapes.{code_of_tree}
use Rattle.frame_load.specs.Budget.{budget, worst_messages, periods}
use Rattle.frame_load.specs.declared.error.LoadError.{LoadError}
use Rattle.frame_load.specs.declared.error.LoadError.TheVariants as loader
use Rattle.bench_assemble.specs.declared.sizes.Sizes.{Sizes}
use Rattle.bench_assemble.specs.declared.fault.AssembleFault.{AssembleFault}
use Rattle.bench_assemble.specs.declared.fault.AssembleFault.TheVariants.{Text, Operations, Messages, Budget, Periods}
use Rattle.bench_assemble.specs.declared.fault.AssembleFault.TheVariants.{Memory}

pub data Refusal : Type 0 where
  -- a fault of the text
  misread : Cause → Refusal
  -- more than 4096 operations
  too_long : Refusal
  -- more than 1024 messages
  too_many_messages : Refusal
  -- more than 100,000,000 steps or 1,000,000 messages in a run
  over_budget : Refusal
  -- periods of more than 2^46 ticks in a run
  too_slow : Refusal

-- a code that may be run, or the first cause for which it may not
unfoldable pub judged_code : Code → Result Code Refusal
judged_code code =
    if nat_lt 4096 (length code.operations) then Err too_long
    else if nat_lt 1024 (length code.messages) then Err too_many_messages
    else if nat_lt 100000000 (budget code.operations) || nat_lt 1000000 (worst_messages code.operations)
    then Err over_budget
    else if nat_lt (2 ^ 46) (periods code.operations) then Err too_slow
    else Ok code

abbrev pub sizes_of : Code → Sizes
sizes_of code = record {
  operations = length code.operations;
  messages = length code.messages;
  budget = budget code.operations;
}

-- the bytes of an image, and its sizes
abbrev pub Sized : Type 0
Sized = List ℕ × Sizes

abbrev pub with_sizes : Result Code Refusal → Result Sized Refusal
with_sizes (Ok code) = Ok (image_bytes code, sizes_of code)
with_sizes (Err refusal) = Err refusal

abbrev pub image_of_tree : Tree → Result Sized Refusal
image_of_tree tree = with_sizes (judged_code (code_of_tree tree))

abbrev pub image_of_reading : Result Tree Cause → Result Sized Refusal
image_of_reading (Ok tree) = image_of_tree tree
image_of_reading (Err cause) = Err (misread cause)

abbrev pub image_of_text : List ℕ → Result Sized Refusal
image_of_text text = image_of_reading (tree_of_text text)

-- a refusal gives the first cause, or says that memory was refused
abbrev pub IsRefusal : {X : Type 0} → Result X Refusal → AssembleFault → Type 0
IsRefusal answer (Text cause place) = answer ≡ Err (misread cause)
IsRefusal answer Operations = answer ≡ Err too_long
IsRefusal answer Messages = answer ≡ Err too_many_messages
IsRefusal answer Budget = answer ≡ Err over_budget
IsRefusal answer Periods = answer ≡ Err too_slow
IsRefusal answer Memory = Unit {0}

-- what a refusal of the loader is told as; it refuses the code of a script for its budget or its periods alone
abbrev pub told_as : LoadError → AssembleFault
told_as loader.Periods = Periods
told_as loader.Memory = Memory
told_as _ = Budget
