-- The exit status of a fault (own choice); 0 is done and 2 usage.
use Rattle.std.specs.Prelude.{◌≡◌, ℕ, List, codes}
use Rattle.ch11_reader.specs.declared.error.ReadError.{ReadError}
use Rattle.ch11_reader.specs.declared.error.ReadError.TheVariants as reading
use Rattle.bench_files.specs.declared.kind.Kind.{Kind}
use Rattle.bench_files.specs.declared.error.OutError.{OutError}
use Rattle.bench_files.specs.declared.error.OutError.TheVariants as out
use Rattle.bench_settings.specs.declared.error.WorldError.{WorldError}
use Rattle.bench_settings.specs.declared.error.WorldError.TheVariants as world
use Rattle.bench_run.specs.declared.error.RunError.{RunError}
use Rattle.bench_run.specs.declared.error.RunError.TheVariants as run
use Rattle.bench_step.specs.declared.fault.StepFault.{StepFault}
use Rattle.bench_step.specs.declared.fault.StepFault.TheVariants as step
use Rattle.bench_requests.specs.declared.fault.CommandFault.{CommandFault}
use Rattle.bench_requests.specs.declared.fault.CommandFault.TheVariants.{Text, Script, Recording, Report, Mismatch, Job}
use Rattle.bench_requests.specs.declared.fault.CommandFault.TheVariants.{Run, Sink, Device, System, Unknown, Rules}
use Rattle.bench_requests.specs.declared.fault.CommandFault.TheVariants.{NotHeld, Memory, OneFile, Busy, OtherKind}
use Rattle.bench_requests.specs.declared.fault.CommandFault.TheVariants.{OtherPart, Usage, NoneSelected, Suspicious}
use Rattle.bench_requests.specs.declared.fault.CommandFault.TheVariants.{Differ, Dictionary, OneOfTwo}

abbrev pub status_of : CommandFault → ℕ
-- the input was refused
status_of (Text fault) = 1
status_of (Script fault) = 1
status_of (Recording refusal) = 1
status_of (OneOfTwo name refusal) = 1
status_of (Report fault) = 1
status_of (Mismatch channel number) = 1
status_of (Job fault) = 1
status_of (Run fault) = 1
status_of (Unknown code) = 1
status_of (Rules fault) = 1
status_of (Dictionary fault) = 1
status_of NoneSelected = 1
-- a file or a stream failed
status_of (Sink taken) = 3
status_of (Device name) = 3
status_of (System name code) = 3
status_of Memory = 4
-- a rule is not held
status_of NotHeld = 5
-- something in a job is probably a mistake, where this is asked for
status_of Suspicious = 5
-- two recordings differ
status_of Differ = 5
-- two files of the command line are one
status_of (OneFile written other) = 2
-- another process writes the file
status_of (Busy name) = 3
-- a file of another kind would be written over
status_of (OtherKind name kind) = 2
status_of (OtherPart name kind) = 2
-- no message can be selected
status_of (Usage text) = 2

-- the fault of a recording that is read whole
abbrev pub fault_of_reading : ReadError → CommandFault
fault_of_reading (reading.Refused refusal) = Recording refusal
fault_of_reading reading.Memory = Memory

-- the fault of jobs and settings that may not be run
abbrev pub fault_of_settings : WorldError → CommandFault
fault_of_settings world.Memory = Memory
fault_of_settings world.Settings = Run world.Settings
fault_of_settings world.ChannelTwice = Run world.ChannelTwice
fault_of_settings world.Prologue = Run world.Prologue

-- the fault of a run that gave no recording
abbrev pub fault_of : {S : Type 0} → RunError S → CommandFault
fault_of (run.Settings sink) = Run world.Settings
fault_of (run.ChannelTwice sink) = Run world.ChannelTwice
fault_of (run.Prologue sink) = Run world.Prologue
fault_of (run.Memory sink) = Memory
fault_of (run.Sink sink report taken) = Sink taken

-- the fault of a file of this name that one of this kind cannot be written to
abbrev pub IsOfOut : List ℕ → Kind → OutError → CommandFault → Type 0
IsOfOut name kind (out.System error) fault = Unit {0}
IsOfOut name kind out.Busy (Busy told) = told.now ≡ name
IsOfOut name kind out.OtherKind (OtherKind told wanted) = (told.now ≡ name) × (wanted ≡ kind)
IsOfOut name kind out.OtherPart (OtherPart told wanted) = (told.now ≡ name) × (wanted ≡ kind)
IsOfOut name kind error fault = ⊥

-- the fault of standard input or output
abbrev pub IsStandardDevice : CommandFault → Type 0
IsStandardDevice (Device name) = name.now ≡ codes "-"
IsStandardDevice _ = ⊥

-- the fault of a session
abbrev pub IsOfStep : StepFault → CommandFault → Type 0
IsOfStep (step.Refused refusal) f = f ≡ Recording refusal
IsOfStep (step.Mismatch channel number) f = f ≡ Mismatch channel number
IsOfStep step.Memory f = f ≡ Memory
IsOfStep step.LineMemory f = f ≡ Memory
IsOfStep step.Input f = IsStandardDevice f
IsOfStep step.Output f = IsStandardDevice f
