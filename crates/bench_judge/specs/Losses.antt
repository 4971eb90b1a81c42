-- What packets of messages say of messages that are missing (own choice).
use Rattle.std.specs.Prelude.{ℕ, ◌==◌, ◌&&◌, ◌||◌, nat_lt, Bool, List, ◌++◌, length, codes, decimal}
use Rattle.std.specs.List.{filter}
use Rattle.ch11_header.specs.Flags.{has_overflow}
use Rattle.ch11_reader.specs.declared.packet.Packet.{Packet}
use Rattle.bench_judge.specs.declared.losses.Lost.{Lost}

-- a packet of messages, of type 19 (hexadecimal)
abbrev pub has_messages : Packet → Bool
has_messages p = p.header.kind == 25

-- one with the overflow flag
abbrev pub overflows : Packet → Bool
overflows p = has_messages p && has_overflow p.header

-- one whose sequence number does not follow that of the channel's packet before
abbrev pub jumps : Packet → Bool
jumps p = has_messages p && p.sequence_jump

abbrev pub lost_of : List Packet → Lost
lost_of packets = record { overflows = length (filter overflows packets); jumps = length (filter jumps packets) }

-- messages are missing
abbrev pub is_any : Lost → Bool
is_any lost = nat_lt 0 lost.overflows || nat_lt 0 lost.jumps

unfoldable pub lost_text : Lost → List ℕ
lost_text lost =
    codes "packets with the overflow flag " ++ (decimal lost.overflows
    ++ (codes ", jumps of the sequence number " ++ decimal lost.jumps))
