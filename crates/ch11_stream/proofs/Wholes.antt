-- A packet that is read with all its bytes.
use Rattle.std.proofs.Common.{◌≡◌, ℕ, ◌++◌, List, length, take, drop, Option, Some, Ok, sym, ap, ◌∙◌, arith}
use Rattle.std.proofs.lemmas.List.{length-append, length-take-le, take-append-drop, take-append-le}
use Rattle.std.specs.Io.KnownBytes.{Keeps, prepend_known}
use Rattle.ch11_header.specs.declared.header.Header.{Header}
use Rattle.ch11_header.specs.HeaderReading.{header_in}
use Rattle.ch11_reader.specs.declared.error.PacketFault.{PacketFault}
use Rattle.ch11_reader.specs.declared.packet.Checked.{Checked}
use Rattle.ch11_reader.specs.declared.packet.Packet.{Packet}
use Rattle.ch11_reader.specs.Listing.{listed_behind}
use Rattle.ch11_reader.specs.Recording.{Found, located, packet_messages, packet_at, with_rest}
use Rattle.ch11_reader.proofs.Joined.{HasRoom, front, header_front, header_room, messages_front, rest_front}
use Rattle.ch11_stream.specs.declared.fault.StreamFault.TheVariants.{Refused}
use Rattle.ch11_stream.specs.Listed.{found_at}
use Rattle.ch11_stream.specs.Looking.{IsFaulty, IsSoundReady}
use Rattle.ch11_stream.specs.Taking.{IsFaultAt}
use Rattle.ch11_stream.specs.WholePackets.{IsWhole, IsWholeAt, WholeReading}
use Rattle.ch11_stream.proofs.Feeding.{both_of}
use Rattle.ch11_stream.proofs.Fronts.{known_on, sound_at}

pub whole_at : (coming left : Option (List ℕ)) (ready : List ℕ) (c : Checked) → Keeps coming (prepend_known ready left) → IsSoundReady ready c → IsWholeAt coming left ready c
whole_at coming left ready c k s = record {
  sound = sound_at coming left ready c k s;
  packet = s.packet;
  bytes = λ bytes known.
      let b = both_of ready left bytes (known_on coming (prepend_known ready left) bytes k known) in
      sym (take-append-le c.header.packet_length ready b.others s.whole) ∙ ap (take c.header.packet_length) b.all;
}

-- the fault of what begins the bytes to come
pub fault_at : (offset : ℕ) (coming left : Option (List ℕ)) (ready : List ℕ) (f : PacketFault) → Keeps coming (prepend_known ready left) → IsFaulty coming ready f
    → IsFaultAt offset coming (Refused (record { offset = offset; fault = f }))
fault_at offset coming left ready f k is bytes known =
    let b = both_of ready left bytes (known_on coming (prepend_known ready left) bytes k known) in
    (omega (arith, is.some, ap length b.all, length-append ready b.others), ap (located offset) (is.known bytes known))

module _ (h : Header) (bytes : List ℕ) (is : packet_at bytes ≡ Ok h) where
  abbrev own : List ℕ
  own = take h.packet_length bytes

  own_size : length own ≡ h.packet_length
  own_size = length-take-le h.packet_length bytes (front bytes h is).whole

  whole : own ++ drop h.packet_length bytes ≡ bytes
  whole = take-append-drop h.packet_length bytes

  room : HasRoom h
  room = header_room bytes h (front bytes h is).header

  own_header : header_in own ≡ Ok h
  own_header = sym (header_front own (drop h.packet_length bytes) (omega (arith, room.least, own_size))) ∙ ap header_in whole ∙ (front bytes h is).header

  own_rest : with_rest h own ≡ Ok h
  own_rest = sym (rest_front h own (drop h.packet_length bytes) room (omega (arith, own_size))) ∙ ap (with_rest h) whole ∙ (front bytes h is).rest

  own_packet : packet_at own ≡ Ok h
  unfolding packet_at
  own_packet = rw own_header own_rest

  own_messages : packet_messages h bytes ≡ packet_messages h own
  own_messages = ap (packet_messages h) (sym whole) ∙ messages_front h own (drop h.packet_length bytes) room (omega (arith, own_size))

-- the packet that was read, where its bytes begin those that are ready
pub has_whole : (before now : WholeReading) (p : Packet) (ready : List ℕ) → packet_at ready ≡ Ok p.header → now.whole ≡ take p.header.packet_length ready → now.reading.given ≡ packet_messages p.header ready
    → ((bytes : List ℕ) → before.reading.left ≡ Some bytes → take p.header.packet_length ready ≡ take p.header.packet_length bytes) → IsWhole before now p
has_whole before now p ready is whole given known = record {
  size = rw whole (own_size p.header ready is);
  packet = rw whole (own_packet p.header ready is);
  messages = given ∙ own_messages p.header ready is ∙ ap (packet_messages p.header) (sym whole);
  bytes = λ bytes left. whole ∙ known bytes left;
}

pub whole_on : (before now : WholeReading) (p : Packet) (earlier : List Found) (offset : ℕ) (coming left : Option (List ℕ)) (ready : List ℕ) (c : Checked) → IsWholeAt coming left ready c → p ≡ listed_behind earlier (found_at offset c.header ready)
    → now.whole ≡ take c.header.packet_length ready → now.reading.given ≡ packet_messages c.header ready → before.reading.left ≡ coming → IsWhole before now p
whole_on before now p earlier offset coming left ready c at listed whole given same =
    let head : p.header ≡ c.header = ap (λ (x : Packet). x.header) listed in
    has_whole before now p ready (at.packet ∙ ap Ok (sym head)) (whole ∙ ap (λ (h : Header). take h.packet_length ready) (sym head)) (given ∙ ap (λ (h : Header). packet_messages h ready) (sym head))
    (λ bytes known. ap (λ (h : Header). take h.packet_length ready) head ∙ at.bytes bytes (sym same ∙ known) ∙ ap (λ (h : Header). take h.packet_length bytes) (sym head))
