-- The letters of a recording's faults, with the offset of the packet (own choice).
use Rattle.std.specs.Prelude.{ℕ, List, ◌++◌, codes, decimal}
use Rattle.ch11_header.specs.Codes as headers
use Rattle.ch11_f1.specs.Codes as bodies
use Rattle.ch11_reader.specs.declared.error.PacketFault.{PacketFault}
use Rattle.ch11_reader.specs.declared.error.PacketFault.TheVariants.{Header, End, Body}
use Rattle.ch11_reader.specs.declared.error.Refusal.{Refusal}
use Rattle.ch11_reader.specs.declared.error.ReadError.{ReadError}
use Rattle.ch11_reader.specs.declared.error.ReadError.TheVariants.{Refused, Memory}

abbrev pub fault_code : PacketFault → List ℕ
fault_code (Header fault) = headers.fault_code fault
fault_code End = codes "N2"
fault_code (Body fault) = bodies.fault_code fault

abbrev pub refusal_text : Refusal → List ℕ
refusal_text r = fault_code r.fault ++ (codes " offset " ++ decimal r.offset)

abbrev pub error_text : ReadError → List ℕ
error_text (Refused r) = refusal_text r
error_text Memory = codes "memory"
