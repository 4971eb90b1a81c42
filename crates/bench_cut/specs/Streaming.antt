-- What cutting a recording comes to whose bytes a reader gives.
use Rattle.std.specs.Prelude.{◌≡◌, ℕ, Bool, List, Option, Result, Ok, Err}
use Rattle.std.specs.Io.KnownBytes.{Appends}
use Rattle.ch11_reader.specs.Indexed.{found_in}
use Rattle.ch11_reader.specs.Recording.{packets_in}
use Rattle.ch11_stream.specs.Folding.{IsFaultOf}
use Rattle.bench_select.specs.declared.selection.Selection.{Selection}
use Rattle.bench_cut.specs.Cut.{cut_bytes}
use Rattle.bench_cut.specs.Parts.{chooses, parts_in}
use Rattle.bench_cut.specs.declared.fault.CutFault.{CutFault}
use Rattle.bench_cut.specs.declared.fault.CutFault.TheVariants as faults

-- The file can be read, the writer got what is cut from it, and it was answered whether a message is chosen; or reading
-- ended, where a refusal is with the file's first fault; or it could not be written, which may come with any file.
abbrev pub Cuts : Selection → Result Bool CutFault → List ℕ → Option (List ℕ) → Option (List ℕ) → Type 0
Cuts s (Ok any) file got gets = (packets_in file ≡ Ok (found_in file))
    × Appends got gets (cut_bytes s file (found_in file)) × (any ≡ chooses (parts_in s file (found_in file)))
Cuts s (Err (faults.Reading f)) file got gets = IsFaultOf file f
Cuts s (Err faults.Writing) file got gets = Unit {0}
