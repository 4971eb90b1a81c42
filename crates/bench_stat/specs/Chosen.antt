-- The selected messages of a channel, in the file's order (own choice). A message's number counts all messages of the
-- file from 1.
use Rattle.std.specs.Prelude.{ℕ, ◌+◌, ◌==◌, if◌then◌else◌, List, [], ◌∷◌, ◌++◌, length, reverse}
use Rattle.ch11_f1.specs.BodyReading.{Message}
use Rattle.ch11_layout.specs.Stamps.{Recorded, recorded, kind_of}
use Rattle.ch11_layout.specs.declared.stamps.StampKind.{StampKind}
use Rattle.ch11_reader.specs.Recording.{Found}
use Rattle.bench_select.specs.declared.selection.Selection.{Selection}
use Rattle.bench_select.specs.Selecting.{selects}

-- the selected ones of messages of a channel that stand behind so many of the file, whose stamps are of this kind
abbrev pub picked : Selection → StampKind → ℕ → ℕ → List Message → List Recorded
picked s kind channel before [] = []
picked s kind channel before (m ∷ ms) =
    if selects s (before + 1) channel (recorded kind m)
    then recorded kind m ∷ picked s kind channel (before + 1) ms
    else picked s kind channel (before + 1) ms

-- those of a channel in packets that stand behind so many messages
abbrev pub chosen : Selection → ℕ → ℕ → List Found → List Recorded
chosen s channel before [] = []
chosen s channel before (p ∷ ps) =
    (if p.header.channel == channel then picked s (kind_of p.header) channel before p.messages else [])
    ++ chosen s channel (before + length p.messages) ps

-- the selected messages of a channel, newest first
abbrev pub history_of : Selection → List Found → ℕ → List Recorded
history_of s ps channel = reverse (chosen s channel 0 ps)
