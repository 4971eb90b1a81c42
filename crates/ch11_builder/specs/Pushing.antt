-- What a push answers.
use Rattle.std.specs.Prelude.{◌≡◌, true, false, ◌≤◌, length}
use Rattle.ch11_builder.specs.Packet.{Numbered}
use Rattle.ch11_builder.specs.Held.{Held, fits, packet_of}
use Rattle.ch11_builder.specs.declared.builder.Pushed.{Pushed}
use Rattle.ch11_builder.specs.declared.builder.Pushed.TheVariants.{Kept, Closed}

-- a packet is closed exactly where it cannot hold the record too, and it is the packet of the records before
abbrev pub ClosesWhereFull : Held → Numbered → Pushed → Type 0
ClosesWhereFull s n Kept = fits s n ≡ true
ClosesWhereFull s n (Closed bytes) = (fits s n ≡ false) × (bytes.now ≡ packet_of s)

-- a packet has at most 524,288 bytes
abbrev pub IsSmallPacket : Pushed → Type 0
IsSmallPacket Kept = Unit {0}
IsSmallPacket (Closed bytes) = length bytes.now ≤ 524288
