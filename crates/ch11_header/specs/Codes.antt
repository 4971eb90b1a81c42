-- The letters of a header's faults (own choice).
use Rattle.std.specs.Prelude.{ℕ, List, codes}
use Rattle.ch11_header.specs.declared.error.HeaderError.{HeaderError}
use Rattle.ch11_header.specs.declared.error.HeaderError.TheVariants.{Short, Sync, Checksum, PacketLength, DataLength}

abbrev pub fault_code : HeaderError → List ℕ
fault_code Short = codes "K1"
fault_code Sync = codes "K2"
fault_code Checksum = codes "K3"
fault_code PacketLength = codes "K4"
fault_code DataLength = codes "K5"
