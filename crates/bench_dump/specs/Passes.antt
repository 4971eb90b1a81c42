-- A recording that is checked before a command reads it a second time.
use Rattle.std.specs.Prelude.{◌≡◌, ℕ, List, Option, Some, Result, Ok, Err}
use Rattle.ch11_reader.specs.declared.error.Refusal.{Refusal}
use Rattle.ch11_reader.specs.Recording.{packets_in}
use Rattle.ch11_stream.specs.declared.fault.StreamFault.{StreamFault}
use Rattle.ch11_stream.specs.declared.fault.StreamFault.TheVariants as faults

-- the answer is this fault of the recording, or want of memory or a device's failure, which may come with any recording
abbrev pub IsRefusedBy : {A : Type 0} → Refusal → Result A StreamFault → Type 0
IsRefusedBy r (Ok x) = ⊥
IsRefusedBy r (Err (faults.Refused other)) = other ≡ r
IsRefusedBy r (Err faults.Memory) = Unit {0}
IsRefusedBy r (Err faults.Device) = Unit {0}

-- where the first pass reads a recording that is refused, that is the answer, and the writer gets nothing
abbrev pub RefusesFirstPass : {A W : Type 0} → Option (List ℕ) → W → W → Result A StreamFault → Type 0
RefusesFirstPass first old new result =
    (file : List ℕ) (r : Refusal) → first ≡ Some file → packets_in file ≡ Err r → (new ≡ old) × IsRefusedBy r result
