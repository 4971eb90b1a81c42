-- What comes of lines that are written while the packets of a recording come from a reader.
use Rattle.std.specs.Prelude.{◌≡◌, ℕ, List, Option, Result, Ok, Err}
use Rattle.std.specs.Io.KnownBytes.{Appends}
use Rattle.ch11_reader.specs.Indexed.{found_in}
use Rattle.ch11_reader.specs.Recording.{packets_in}
use Rattle.ch11_stream.specs.Folding.{IsFaultOf}
use Rattle.bench_judge.specs.Selection.{Origins}
use Rattle.bench_judge.specs.Verdicts.{Passed, passed_in}
use Rattle.bench_judge.specs.declared.pass_fault.PassFault.{PassFault}
use Rattle.bench_judge.specs.declared.pass_fault.PassFault.TheVariants as faults

-- a file as it is judged
abbrev pub passed_of : Origins → List ℕ → Passed
passed_of origins file = passed_in origins (found_in file)

-- The file can be read, and the lines that are said of it were written behind what the writer had; or the file is
-- refused with its first fault. Want of memory and failures of devices may come with any file.
abbrev pub WritesLinesOf : {A : Type 0} → (Passed → List ℕ) → Origins → Result A PassFault → List ℕ
    → Option (List ℕ) → Option (List ℕ) → Type 0
WritesLinesOf lines origins (Ok x) file got gets = (packets_in file ≡ Ok (found_in file))
    × Appends got gets (lines (passed_of origins file))
WritesLinesOf lines origins (Err (faults.Recording e)) file got gets = IsFaultOf file e
WritesLinesOf lines origins (Err (faults.Printing e)) file got gets = Unit {0}
WritesLinesOf lines origins (Err (faults.Opening e)) file got gets = Unit {0}
