-- Bytes on their way from a reader.
use Rattle.std.specs.Prelude.{◌≡◌, ℕ, ◌<◌, ◌≤◌, List, [], ◌++◌, length, drop, Bool, true, false, Option, Some}
use Rattle.std.specs.Prelude.{Result, Ok, Err}
use Rattle.std.specs.Io.KnownBytes.{Consumes, IsAtEnd, Keeps, prepend_known}
use Rattle.ch11_reader.specs.declared.error.ReadError.{ReadError}
use Rattle.ch11_reader.specs.declared.error.ReadError.TheVariants as errors
use Rattle.ch11_stream.specs.declared.fault.StreamFault.{StreamFault}
use Rattle.ch11_stream.specs.declared.fault.StreamFault.TheVariants as faults

-- bytes that a reader gave and nobody used, and how many more there is room for behind them
pub record Buffered : Type 0 where
  pub ready : List ℕ
  pub room : ℕ

-- how many bytes a read gave
abbrev pub bytes_given : {E : Type 0} → Result ℕ E → ℕ
bytes_given (Ok count) = count
bytes_given (Err e) = 0

-- a read gave bytes, which are ready behind the others; there were none where the reader is at its end
pub record AreMoreReady (left leaves : Option (List ℕ)) (before after : List ℕ) (more : Bool) : Type 0 where
  pub given : List ℕ
  pub taken : Consumes left leaves given
  pub kept : after ≡ before ++ given
  pub ended : more ≡ false → (given ≡ []) × IsAtEnd leaves

-- all bytes to come are there as before, and so many of them are ready, or all, which are fewer
pub record IsFilled (size : ℕ) (left leaves : Option (List ℕ)) (before after : List ℕ) (there : Bool) : Type 0 where
  pub kept : Keeps (prepend_known before left) (prepend_known after leaves)
  pub enough : there ≡ true → size ≤ length after
  pub few : there ≡ false → (length after < size) × IsAtEnd leaves

-- so many bytes were passed, or there are fewer
pub record IsPassed (count : ℕ) (left leaves : Option (List ℕ)) (before after : List ℕ) (there : Bool) : Type 0 where
  pub enough : there ≡ true → (bytes : List ℕ) → prepend_known before left ≡ Some bytes
      → (count ≤ length bytes) × (prepend_known after leaves ≡ Some (drop count bytes))
  pub few : there ≡ false → (bytes : List ℕ) → prepend_known before left ≡ Some bytes → length bytes < count

-- so many bytes were passed unread, no more than were to be; where there were fewer, none is left
pub record IsAdvanced (count passed : ℕ) (left leaves : Option (List ℕ)) : Type 0 where
  pub within : passed ≤ count
  pub behind : (bytes : List ℕ) → left ≡ Some bytes → leaves ≡ Some (drop passed bytes)

-- a fault that isn't the recording's
abbrev pub IsOther : StreamFault → Type 0
IsOther (faults.Refused r) = ⊥
IsOther faults.Memory = Unit {0}
IsOther faults.Device = Unit {0}

-- the fault of a recording that is read whole
abbrev pub fault_of_reading : ReadError → StreamFault
fault_of_reading (errors.Refused r) = faults.Refused r
fault_of_reading errors.Memory = faults.Memory
