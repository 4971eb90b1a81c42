-- What a fault of the recording is to whoever completes it (own choice).
use Rattle.ch11_stream.specs.declared.fault.StreamFault.{StreamFault}
use Rattle.ch11_stream.specs.declared.fault.StreamFault.TheVariants as errors
use Rattle.bench_complete.specs.declared.fault.CompleteFault.{CompleteFault}
use Rattle.bench_complete.specs.declared.fault.CompleteFault.TheVariants as faults

abbrev pub fault_of_reading : StreamFault → CompleteFault
fault_of_reading (errors.Refused r) = faults.Refused r
fault_of_reading errors.Memory = faults.Memory
fault_of_reading errors.Device = faults.Reader
