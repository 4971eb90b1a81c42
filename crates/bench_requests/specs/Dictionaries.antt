-- What is made of a dictionary of signals that was refused.
use Rattle.std.specs.Prelude.{◌≡◌, Err}
use Rattle.signal_dictionary.specs.Dictionary.{AllSignals}
use Rattle.signal_dictionary.specs.declared.fault.DictionaryError.{DictionaryError}
use Rattle.bench_requests.specs.Requests.{unless_memory}
use Rattle.bench_requests.specs.declared.fault.CommandFault.{CommandFault}
use Rattle.bench_requests.specs.declared.fault.CommandFault.TheVariants as fault

-- the fault of a dictionary that was refused
abbrev pub fault_of_dictionary : DictionaryError → CommandFault
fault_of_dictionary e = unless_memory e.fault (fault.Dictionary e)

-- the first fault of a text, or want of memory
abbrev pub IsRefusedDictionary : AllSignals → CommandFault → Type 0
IsRefusedDictionary (Err first) (fault.Dictionary e) = e ≡ first
IsRefusedDictionary all fault.Memory = Unit {0}
IsRefusedDictionary all _ = ⊥
