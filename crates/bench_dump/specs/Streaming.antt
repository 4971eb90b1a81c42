-- What a dump of a recording comes to whose bytes a reader gives.
use Rattle.std.specs.Prelude.{◌≡◌, ℕ, Bool, false, List, [], Option, Result, Ok, Err}
use Rattle.std.specs.Io.KnownBytes.{Appends}
use Rattle.ch11_reader.specs.Indexed.{found_in}
use Rattle.ch11_reader.specs.Recording.{packets_in}
use Rattle.ch11_stream.specs.declared.fault.StreamFault.{StreamFault}
use Rattle.bench_clock.specs.declared.clock.Mark.{Mark}
use Rattle.ch11_stream.specs.declared.fault.StreamFault.TheVariants as faults
use Rattle.bench_dump.specs.SkippingText.{file_text}
use Rattle.bench_dump.specs.TimedText.{timed_text}

-- A dump ends where the recording can be read, and its text is the recording's; it is refused with the recording's
-- first fault. Want of memory and a device's failure may come with any recording.
abbrev pub Dumps : {A : Type 0} → Result A StreamFault → List ℕ → Option (List ℕ) → Option (List ℕ) → Type 0
Dumps (Ok x) file got gets = (packets_in file ≡ Ok (found_in file)) × Appends got gets (file_text false file)
Dumps (Err (faults.Refused r)) file got gets = packets_in file ≡ Err r
Dumps (Err faults.Memory) file got gets = Unit {0}
Dumps (Err faults.Device) file got gets = Unit {0}

-- The same with the time of day behind each stamp, its own or as a clock tells it, where it is asked for.
abbrev pub DumpsBy : {A : Type 0} → List Mark → Bool → Result A StreamFault → List ℕ → Option (List ℕ) → Option (List ℕ)
    → Type 0
DumpsBy clock timed (Ok x) file got gets = (packets_in file ≡ Ok (found_in file))
    × Appends got gets (timed_text clock timed [] (found_in file))
DumpsBy clock timed (Err (faults.Refused r)) file got gets = packets_in file ≡ Err r
DumpsBy clock timed (Err faults.Memory) file got gets = Unit {0}
DumpsBy clock timed (Err faults.Device) file got gets = Unit {0}
