-- What is chosen of the packets of a recording (own choice), and which of them go over.
use Rattle.std.specs.Prelude.{ℕ, ◌+◌, ◌==◌, Bool, false, not, ◌&&◌, ◌||◌, nat_lt, if◌then◌else◌, List, [], ◌∷◌}
use Rattle.std.specs.Prelude.{length, take, drop}
use Rattle.ch11_f1.specs.BodyReading.{Message}
use Rattle.ch11_header.specs.declared.header.Header.{Header}
use Rattle.ch11_header.specs.Kinds.{recording_index}
use Rattle.ch11_layout.specs.Stamps.{kind_of, recorded}
use Rattle.ch11_layout.specs.declared.stamps.StampKind.{StampKind}
use Rattle.ch11_reader.specs.Recording.{Found}
use Rattle.bench_select.specs.declared.selection.Selection.{Selection}
use Rattle.bench_select.specs.Selecting.{selects}

-- those that are chosen of the messages of one channel, behind so many messages of the file, whose stamps are of this
-- kind
abbrev pub chosen_among : Selection → StampKind → ℕ → ℕ → List Message → List Message
chosen_among s kind before channel [] = []
chosen_among s kind before channel (m ∷ ms) =
    if selects s (before + 1) channel (recorded kind m) then m ∷ chosen_among s kind (before + 1) channel ms
    else chosen_among s kind (before + 1) channel ms

-- a packet: what its header says, all of its bytes, its messages, and those of them that are chosen
pub record Part : Type 0 where
  pub header : Header
  pub bytes : List ℕ
  pub messages : List Message
  pub chosen : List Message

abbrev pub part_by : Selection → ℕ → Header → List ℕ → List Message → Part
part_by s before h bytes ms = record {
  header = h;
  bytes = bytes;
  messages = ms;
  chosen = chosen_among s (kind_of h) before h.channel ms;
}

-- the packet of a file, behind so many messages
abbrev pub part_of : Selection → List ℕ → ℕ → Found → Part
part_of s file before p = part_by s before p.header (take p.header.packet_length (drop p.offset file)) p.messages

abbrev pub parts_behind : Selection → List ℕ → ℕ → List Found → List Part
parts_behind s file before [] = []
parts_behind s file before (p ∷ ps) = part_of s file before p ∷ parts_behind s file (before + length p.messages) ps

-- all packets of a file
abbrev pub parts_in : Selection → List ℕ → List Found → List Part
parts_in s file ps = parts_behind s file 0 ps

-- a packet loses messages
abbrev pub loses : Part → Bool
loses p = nat_lt (length p.chosen) (length p.messages)

-- a packet goes over unless it is an index of a recording (type 03), whose offsets would be wrong, or it has messages
-- and none of them is chosen
abbrev pub goes_over : Part → Bool
goes_over p = not (p.header.kind == recording_index) && (length p.messages == 0 || nat_lt 0 (length p.chosen))

-- a message is chosen
abbrev pub chooses : List Part → Bool
chooses [] = false
chooses (p ∷ ps) = nat_lt 0 (length p.chosen) || chooses ps
