-- What an export of a recording comes to whose bytes a reader gives.
use Rattle.std.specs.Prelude.{◌≡◌, ℕ, List, Result, Ok, Err}
use Rattle.ch11_reader.specs.Indexed.{found_in}
use Rattle.ch11_reader.specs.Recording.{Found, packets_in}
use Rattle.ch11_stream.specs.Folding.{IsFaultOf}
use Rattle.bench_export.specs.declared.fault.ExportFault.{ExportFault}
use Rattle.bench_export.specs.declared.fault.ExportFault.TheVariants as faults

-- The file can be read, and what was answered is so related to its packets; or reading ended, where a refusal is with
-- the file's first fault; or it could not be written, which may come with any file.
abbrev pub Exports : {A : Type 0} → (List Found → A → Type 0) → Result A ExportFault → List ℕ → Type 0
Exports P (Ok x) file = (packets_in file ≡ Ok (found_in file)) × P (found_in file) x
Exports P (Err (faults.Reading f)) file = IsFaultOf file f
Exports P (Err (faults.Writing f)) file = Unit {0}
