-- When a packet says that messages are missing.
use Rattle.std.specs.Prelude.{Bool}
use Rattle.ch11_header.specs.Flags.{has_overflow}
use Rattle.ch11_reader.specs.declared.packet.Packet.{Packet}

abbrev pub is_marked : Packet → Bool
is_marked packet = has_overflow packet.header
