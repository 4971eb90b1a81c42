-- Which packets of a recording a rule selects and which of them miss it, where it is about whole packets (own choice;
-- IRIG 106-17 Chapter 11, packet header: sequence number, packet flags).
use Rattle.std.specs.Prelude.{◌≡◌, ℕ, Bool, ◌&&◌, ◌||◌, List, length, Some, slice_get}
use Rattle.std.specs.List.{filter}
use Rattle.ch11_header.specs.Flags.{has_overflow}
use Rattle.ch11_reader.specs.declared.packet.Packet.{Packet}
use Rattle.judge_rules.specs.declared.rules.Rule.{Rule}
use Rattle.bench_select.specs.Selectors.{is_chosen}
use Rattle.bench_judge.specs.declared.packets.PacketTally.{PacketTally}
use Rattle.bench_judge.specs.Losses.{has_messages}

-- the packets of messages of the channel that a rule names, or of each channel
abbrev pub selects_packet : Rule → Packet → Bool
selects_packet rule p = has_messages p && is_chosen rule.channel p.header.channel

-- those with the overflow flag, or whose sequence number does not follow that of the channel's packet before, of
-- whatever type
abbrev pub misses_packet : Rule → Packet → Bool
misses_packet rule p = selects_packet rule p && (has_overflow p.header || p.sequence_jump)

abbrev pub packets_selected : Rule → List Packet → List Packet
packets_selected rule packets = filter (selects_packet rule) packets

abbrev pub packets_missed : Rule → List Packet → List Packet
packets_missed rule packets = filter (misses_packet rule) packets

-- so many packets were selected so far, and so many of them missed the rule
pub record IsPacketTally (rule : Rule) (packets : List Packet) (tally : PacketTally) : Type 0 where
  pub selected : tally.selected ≡ length (packets_selected rule packets)
  pub missed : tally.missed ≡ length (packets_missed rule packets)

-- a tally for each rule, in their order
pub record ArePacketTallies (rules : List Rule) (packets : List Packet) (tallies : List PacketTally) : Type 0 where
  pub many : length tallies ≡ length rules
  pub each : (place : ℕ) (rule : Rule) (tally : PacketTally) → slice_get rules place ≡ Some rule
      → slice_get tallies place ≡ Some tally → IsPacketTally rule packets tally
