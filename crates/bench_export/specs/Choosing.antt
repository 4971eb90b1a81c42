-- Whether a recording has a selected message.
use Rattle.std.specs.Prelude.{ℕ, ◌+◌, Bool, false, ◌||◌, List, [], ◌∷◌, length}
use Rattle.ch11_f1.specs.BodyReading.{Message}
use Rattle.ch11_layout.specs.Stamps.{recorded, kind_of}
use Rattle.ch11_layout.specs.declared.stamps.StampKind.{StampKind}
use Rattle.ch11_reader.specs.Recording.{Found}
use Rattle.bench_select.specs.declared.selection.Selection.{Selection}
use Rattle.bench_select.specs.Selecting.{selects}

-- among messages of one channel, behind so many messages of the file, whose stamps are of this kind
abbrev pub selects_among : Selection → StampKind → ℕ → ℕ → List Message → Bool
selects_among s kind before channel [] = false
selects_among s kind before channel (m ∷ ms) =
    selects s (before + 1) channel (recorded kind m) || selects_among s kind (before + 1) channel ms

-- in packets, behind so many messages of the file
abbrev pub selects_behind : Selection → ℕ → List Found → Bool
selects_behind s before [] = false
selects_behind s before (p ∷ ps) =
    selects_among s (kind_of p.header) before p.header.channel p.messages
    || selects_behind s (before + length p.messages) ps

abbrev pub selects_any : Selection → List Found → Bool
selects_any s ps = selects_behind s 0 ps
