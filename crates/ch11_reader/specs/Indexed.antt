-- What the fields of an index say of the recording.
use Rattle.std.specs.Prelude.{◌≡◌, ℕ, ◌+◌, ◌≤◌, List, [], ◌∷◌, length, drop, map}
use Rattle.ch11_header.specs.HeaderReading.{body_start}
use Rattle.ch11_reader.specs.declared.packet.Packet.{Packet}
use Rattle.ch11_reader.specs.Recording.{Found, packet_messages, packets_in, found_or_none}
use Rattle.ch11_reader.specs.Contents.{total_in}
use Rattle.ch11_reader.specs.Listing.{listing}

-- the packets of a recording that can be read
abbrev pub found_in : List ℕ → List Found
found_in file = found_or_none (packets_in file)

-- the packet of an entry, its messages read from the file
abbrev pub found_of : List ℕ → Packet → Found
found_of file e = record {
  offset = e.offset;
  header = e.header;
  messages = packet_messages e.header (drop e.offset file);
}

-- the bodies of the packets lie in the file
abbrev pub AreWithin : List ℕ → List Packet → Type 0
AreWithin file [] = Unit {0}
AreWithin file (e ∷ es) = (e.offset + (body_start e.header + e.header.data_length) ≤ length file) × AreWithin file es

-- the packets of the entries
abbrev pub indexed : List ℕ → List Packet → List Found
indexed file entries = map (found_of file) entries

-- the entries are the listing of their packets, and the total is theirs
pub record IsIndex (file : List ℕ) (entries : List Packet) (total : ℕ) : Type 0 where
  pub listed : entries ≡ listing (indexed file entries)
  pub counted : total ≡ total_in (indexed file entries)
  pub few : total ≤ length file
  pub within : AreWithin file entries
