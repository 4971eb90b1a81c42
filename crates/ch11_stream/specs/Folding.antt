-- What one pass over the packets of a file comes to.
use Rattle.std.specs.Prelude.{◌≡◌, ℕ, List, Result, Ok, Err}
use Rattle.ch11_reader.specs.Indexed.{found_in}
use Rattle.ch11_reader.specs.Recording.{Found, packets_in}
use Rattle.ch11_stream.specs.declared.fault.StreamFault.{StreamFault}
use Rattle.ch11_stream.specs.declared.fault.StreamFault.TheVariants as faults

-- the file is refused, with that fault as its first; want of memory and a device's failure may come with any file
abbrev pub IsFaultOf : List ℕ → StreamFault → Type 0
IsFaultOf file (faults.Refused r) = packets_in file ≡ Err r
IsFaultOf file faults.Memory = Unit {0}
IsFaultOf file faults.Device = Unit {0}

-- The file can be read, and what was found is so related to its packets; or there is a fault.
abbrev pub FoldsPackets : {A : Type 0} → (List Found → A → Type 0) → Result A StreamFault → List ℕ → Type 0
FoldsPackets P (Ok x) file = (packets_in file ≡ Ok (found_in file)) × P (found_in file) x
FoldsPackets P (Err e) file = IsFaultOf file e
