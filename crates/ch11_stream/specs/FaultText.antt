-- What the program prints where no packet could be read (own choice).
use Rattle.std.specs.Prelude.{ℕ, List, codes}
use Rattle.ch11_reader.specs.Codes.{refusal_text}
use Rattle.ch11_stream.specs.declared.fault.StreamFault.{StreamFault}
use Rattle.ch11_stream.specs.declared.fault.StreamFault.TheVariants.{Refused, Memory, Device}

abbrev pub fault_text : StreamFault → List ℕ
fault_text (Refused r) = refusal_text r
fault_text Memory = codes "memory"
fault_text Device = codes "device -"
