-- What the program prints of a session that failed (own choice).
use Rattle.std.specs.Prelude.{ℕ, List, ◌++◌, codes, decimal}
use Rattle.ch11_reader.specs.Codes.{refusal_text}
use Rattle.bench_step.specs.declared.fault.StepFault.{StepFault}
use Rattle.bench_step.specs.declared.fault.StepFault.TheVariants as fault

abbrev pub fault_text : StepFault → List ℕ
fault_text (fault.Refused r) = refusal_text r
fault_text (fault.Mismatch channel number) = codes "Y1 channel "
    ++ (decimal channel ++ (codes " number " ++ decimal number))
fault_text fault.Memory = codes "memory"
fault_text fault.LineMemory = codes "memory"
fault_text fault.Input = codes "device -"
fault_text fault.Output = codes "device -"
