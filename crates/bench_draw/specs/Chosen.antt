-- How many messages are drawn: those that a selection chooses, each by its number in the file (own choice).
use Rattle.std.specs.Prelude.{ℕ, ◌+◌, if◌then◌else◌, List, [], ◌∷◌, length}
use Rattle.ch11_f1.specs.BodyReading.{Message}
use Rattle.ch11_layout.specs.Stamps.{recorded, kind_of}
use Rattle.ch11_layout.specs.declared.stamps.StampKind.{StampKind}
use Rattle.ch11_reader.specs.Recording.{Found}
use Rattle.bench_select.specs.Selecting.{selects}
use Rattle.bench_select.specs.declared.selection.Selection.{Selection}

-- of messages of one channel, behind so many messages of the file, whose stamps are of this kind
abbrev pub chosen_in : Selection → StampKind → ℕ → ℕ → List Message → ℕ
chosen_in s kind before channel [] = 0
chosen_in s kind before channel (m ∷ ms) = (if selects s (before + 1) channel (recorded kind m) then 1 else 0)
    + chosen_in s kind (before + 1) channel ms

-- of packets, behind so many messages of the file
abbrev pub chosen_behind : Selection → ℕ → List Found → ℕ
chosen_behind s before [] = 0
chosen_behind s before (p ∷ ps) = chosen_in s (kind_of p.header) before p.header.channel p.messages
    + chosen_behind s (before + length p.messages) ps

-- of a whole recording
abbrev pub chosen : Selection → List Found → ℕ
chosen s ps = chosen_behind s 0 ps
