-- The messages of a recording as they are looked at, each with its channel.
use Rattle.std.specs.Prelude.{ℕ, List, ◌++◌, map, reverse}
use Rattle.std.specs.List.{flat_map}
use Rattle.ch11_f1.specs.BodyReading.{Message}
use Rattle.ch11_reader.specs.Recording.{Found}
use Rattle.ch11_layout.specs.Stamps.{Recorded, recorded, kind_of}
use Rattle.ch11_layout.specs.declared.stamps.StampKind.{StampKind}

abbrev pub Viewed : Type 0
Viewed = ℕ × Recorded

-- those of a packet
abbrev pub viewed_of : Found → List Viewed
viewed_of p = map (λ (m : Message). (p.header.channel, recorded (kind_of p.header) m)) p.messages

-- all of them, in the file's order
abbrev pub viewed_in : List Found → List Viewed
viewed_in ps = flat_map viewed_of ps

-- the channels of messages
abbrev pub channels_of : List Viewed → List ℕ
channels_of messages = map (λ (h : Viewed). h.0) messages

-- those of a packet of a channel, whose stamps are of this kind, behind a history that stands newest first
abbrev pub viewed_behind : StampKind → ℕ → List Message → List Viewed → List Viewed
viewed_behind kind channel messages history =
    reverse (map (λ (m : Message). (channel, recorded kind m)) messages) ++ history
