-- What is known of the packet that was read last.
use Rattle.std.proofs.Common.{◌≡◌, ℕ, ◌+◌, ◌<◌, ◌≤◌, ◌^◌, true, List, [], ◌∷◌, length, Ok, arith}
use Rattle.std.proofs.lemmas.Bool.{ltb-true}
use Rattle.ch11_f1.specs.BodyReading.{Message}
use Rattle.ch11_header.specs.declared.header.Header.{Header}
use Rattle.ch11_header.specs.HeaderReading.{body_start, header_in}
use Rattle.ch11_layout.specs.Stamps.{kind_of}
use Rattle.ch11_reader.specs.declared.packet.Packet.{Packet}
use Rattle.ch11_reader.proofs.Joined.{HasRoom, front, header_room}
use Rattle.ch11_stream.specs.WholePackets.{WholeReading}
use Rattle.bench_complete.proofs.Sound.{AreBytes}
use Rattle.bench_select.specs.declared.selection.Selection.{Selection}
use Rattle.bench_cut.specs.Cut.{header_with, sizes_of}
use Rattle.bench_cut.specs.Packets.{IsRead, part_read}
use Rattle.bench_cut.specs.Parts.{chosen_among, loses}
use Rattle.bench_cut.specs.Short.{AreShort}
use Rattle.bench_cut.proofs.Choices.{lighter}
use Rattle.bench_cut.proofs.Facts.{PacketFacts, are_short, packet_facts}
use Rattle.bench_cut.proofs.Headers.{IsLawful, is_lawful, lost_lawful}

pub record IsKnown (now : WholeReading) (p : Packet) : Type 0 where
  pub lawful : IsLawful p.header
  pub room : HasRoom p.header
  pub facts : PacketFacts p.header now.whole now.reading.given
  pub short : AreShort now.reading.given

pub known : (now : WholeReading) (p : Packet) → IsRead now p → AreBytes now.whole → IsKnown now p
known now p is small =
    let head : header_in now.whole ≡ Ok p.header = (front now.whole p.header is.packet).header in
    let facts : PacketFacts p.header now.whole now.reading.given = packet_facts p.header now.whole now.reading.given is.messages in
    record {
      lawful = is_lawful now.whole p.header small head;
      room = header_room now.whole p.header head;
      facts = facts;
      short = are_short now.reading.given (facts.fits small);
    }

sizes_by : (h : Header) (bytes : List ℕ) (ms : List Message) → PacketFacts h bytes ms → sizes_of ms ≤ h.data_length
sizes_by h bytes [] f = omega arith
sizes_by h bytes (m ∷ ms) f = omega (arith, f.size (omega arith))

pub sizes_small : (now : WholeReading) (p : Packet) → IsKnown now p → sizes_of now.reading.given < 2 ^ 64
sizes_small now p k = omega (arith, sizes_by p.header now.whole now.reading.given k.facts, k.lawful.fits.data_length)

-- one that loses messages
pub record IsLess (s : Selection) (now : WholeReading) (p : Packet) : Type 0 where
  pub few : length (part_read s now p).chosen < 2 ^ 24
  pub size : sizes_of (part_read s now p).chosen + 18 ≤ p.header.data_length
  pub small : sizes_of (part_read s now p).chosen + 4 < 2 ^ 64
  pub room : body_start p.header + p.header.data_length ≤ p.header.packet_length
  pub body : body_start p.header + 4 ≤ length now.whole
  pub counter : (header_with p.header (part_read s now p).chosen).counter < 2 ^ 48
  pub short : AreShort now.reading.given

pub is_less : (s : Selection) (now : WholeReading) (p : Packet) → IsRead now p → AreBytes now.whole → loses (part_read s now p) ≡ true → IsLess s now p
is_less s now p is bytes some =
    let k : IsKnown now p = known now p is bytes in
    let ms : List Message = now.reading.given in
    let chosen : List Message = chosen_among s (kind_of p.header) p.before p.header.channel ms in
    let less : length chosen < length ms = ltb-true (length chosen) (length ms) some in
    let light = lighter s (kind_of p.header) p.before p.header.channel ms in
    let size : 4 + sizes_of ms ≤ p.header.data_length = k.facts.size (omega (arith, less)) in
    let few : sizes_of chosen + 18 ≤ p.header.data_length = omega (arith, less, light, size) in
    record {
      few = omega (arith, less, k.facts.few);
      size = few;
      small = omega (arith, few, k.lawful.fits.data_length);
      room = k.room.body;
      body = omega (arith, size, k.room.body, is.size);
      counter = (lost_lawful p.header chosen k.lawful (omega (arith, few))).fits.counter;
      short = k.short;
    }
