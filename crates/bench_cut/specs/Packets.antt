-- A packet that was read, whole, as it is cut.
use Rattle.std.specs.Prelude.{◌≡◌, ◌+◌, ◌<◌, ◌^◌, ℕ, if◌then◌else◌, List, [], ◌++◌, length, Ok}
use Rattle.ch11_header.specs.HeaderBytes.{header_bytes}
use Rattle.ch11_reader.specs.declared.packet.Packet.{Packet}
use Rattle.ch11_reader.specs.Recording.{packet_messages, packet_at}
use Rattle.ch11_stream.specs.WholePackets.{WholeReading}
use Rattle.bench_select.specs.declared.selection.Selection.{Selection}
use Rattle.bench_cut.specs.declared.losses.ChannelLoss.{ChannelLoss}
use Rattle.bench_cut.specs.Cut.{kept_header, kept_rest, piece_behind}
use Rattle.bench_cut.specs.Heads.{header_for}
use Rattle.bench_cut.specs.Parts.{Part, goes_over, part_by}

-- the packet that was read last, all bytes of which are there
pub record IsRead (now : WholeReading) (p : Packet) : Type 0 where
  pub size : length now.whole ≡ p.header.packet_length
  pub packet : packet_at now.whole ≡ Ok p.header
  pub messages : now.reading.given ≡ packet_messages p.header now.whole
  pub count : p.count ≡ length now.reading.given
  pub few : p.before + length now.reading.given < 2 ^ 64

-- what it is, and what is chosen of it
abbrev pub part_read : Selection → WholeReading → Packet → Part
part_read s now p = part_by s p.before p.header now.whole now.reading.given

-- the bytes with which a packet goes over, by what is kept of its channel
abbrev pub bytes_for : ChannelLoss → Part → List ℕ
bytes_for loss p = header_bytes (header_for loss (kept_header p)) ++ kept_rest p

-- the bytes that are written of a packet behind earlier ones, which stand newest first
abbrev pub written_behind : List Part → Part → List ℕ
written_behind earlier p = if goes_over p then (piece_behind earlier p).bytes else []
