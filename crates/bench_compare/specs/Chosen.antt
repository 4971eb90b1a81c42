-- The messages of a channel of a recording that are chosen (own choice), in the file's order.
use Rattle.std.specs.Prelude.{ℕ, ◌+◌, ◌==◌, Bool, if◌then◌else◌, List, [], ◌∷◌, ◌++◌, length}
use Rattle.ch11_f1.specs.BodyReading.{Message}
use Rattle.ch11_layout.specs.Stamps.{Recorded, kind_of, recorded}
use Rattle.ch11_layout.specs.declared.stamps.StampKind.{StampKind}
use Rattle.ch11_reader.specs.Recording.{Found}
use Rattle.bench_select.specs.declared.selection.Selection.{Selection}
use Rattle.bench_select.specs.Selecting.{selects}

-- those among messages of one channel, behind so many messages of the file, whose stamps are of this kind
abbrev pub chosen_among : Selection → StampKind → ℕ → ℕ → List Message → List Recorded
chosen_among s kind before channel [] = []
chosen_among s kind before channel (m ∷ ms) =
    if selects s (before + 1) channel (recorded kind m)
    then recorded kind m ∷ chosen_among s kind (before + 1) channel ms
    else chosen_among s kind (before + 1) channel ms

-- a message that is chosen
abbrev pub one_if : Bool → Recorded → List Recorded
one_if chosen m = if chosen then m ∷ [] else []

-- those of a packet, where it is of the channel
abbrev pub chosen_if : Selection → Bool → StampKind → ℕ → ℕ → List Message → List Recorded
chosen_if s own kind before channel ms = if own then chosen_among s kind before channel ms else []

abbrev pub chosen_of : Selection → ℕ → ℕ → Found → List Recorded
chosen_of s channel before p =
    chosen_if s (p.header.channel == channel) (kind_of p.header) before channel p.messages

-- those of packets, behind so many messages of the file
abbrev pub chosen_behind : Selection → ℕ → ℕ → List Found → List Recorded
chosen_behind s channel before [] = []
chosen_behind s channel before (p ∷ ps) =
    chosen_of s channel before p ++ chosen_behind s channel (before + length p.messages) ps

-- those of a recording
abbrev pub chosen_in : Selection → ℕ → List Found → List Recorded
chosen_in s channel ps = chosen_behind s channel 0 ps
