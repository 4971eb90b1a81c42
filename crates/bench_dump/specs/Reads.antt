-- What one read of a file gave.
use Rattle.std.specs.Prelude.{◌≡◌, ℕ, Bool, false, List, [], ◌++◌, take, Option, Result, Ok, Err, IsOk, IsErr}
use Rattle.std.specs.Io.KnownBytes.{Consumes, IsAtEnd}
use Rattle.ch11_stream.specs.declared.fault.StreamFault.{StreamFault}
use Rattle.ch11_stream.specs.declared.fault.StreamFault.TheVariants as faults

-- the bytes that the reader lost were appended, and the reader is at its end where there is no more
pub record IsReadBehind (left leaves : Option (List ℕ)) (before after : List ℕ) (more : Bool) : Type 0 where
  pub given : List ℕ
  pub taken : Consumes left leaves given
  pub kept : after ≡ before ++ given
  pub ended : more ≡ false → IsAtEnd leaves

-- what a read gave of a buffer
abbrev pub given : {E : Type 0} → Result ℕ E → List ℕ → List ℕ
given (Ok count) piece = take count piece
given (Err e) piece = []

-- What a read comes to behind which no more is read: want of memory for what it gave, or a device's fault where it
-- failed.
abbrev pub IsReadFault : {E : Type 0} → Result ℕ E → StreamFault → Type 0
IsReadFault read (faults.Refused r) = ⊥
IsReadFault read faults.Memory = IsOk read
IsReadFault read faults.Device = IsErr read
