-- What is told of a channel beside its figures (own choice): how its messages follow one another, and its status words;
-- and what its packets say of messages that are missing (IRIG 106-17 Chapter 11, packet header: overflow flag, sequence
-- number).
use Rattle.std.specs.Prelude.{ℕ, ◌==◌, Bool, ◌&&◌, List, length}
use Rattle.std.specs.List.{filter}
use Rattle.ch11_header.specs.Flags.{has_overflow}
use Rattle.ch11_layout.specs.Stamps.{Recorded}
use Rattle.ch11_reader.specs.declared.packet.Packet.{Packet}
use Rattle.bench_stat.specs.declared.details.Details.{Details}
use Rattle.bench_stat.specs.declared.losses.Losses.{Losses}
use Rattle.bench_stat.specs.Flows.{flow_of}
use Rattle.bench_stat.specs.Replies.{replies_of}

abbrev pub details_of : List Recorded → Details
details_of history = record { flow = flow_of history; replies = replies_of history }

-- packets of a channel with the overflow flag
abbrev pub overflows : ℕ → Packet → Bool
overflows channel p = (p.header.channel == channel) && has_overflow p.header

-- those whose sequence number does not follow that of the packet before
abbrev pub jumps : ℕ → Packet → Bool
jumps channel p = (p.header.channel == channel) && p.sequence_jump

abbrev pub losses_of : ℕ → List Packet → Losses
losses_of channel packets = record {
  overflows = length (filter (overflows channel) packets);
  jumps = length (filter (jumps channel) packets);
}
