-- A whole run of a builder.
use Rattle.std.specs.Prelude.{ℕ, if◌then◌else◌, List, [], ◌∷◌, ◌++◌}
use Rattle.ch11_builder.specs.Packet.{Numbered}
use Rattle.ch11_builder.specs.Cutting.{is_empty}
use Rattle.ch11_builder.specs.Held.{Held, packet_of, fits, pushed}

-- what a builder stands for once the records have been pushed
abbrev pub after : Held → List Numbered → Held
after s [] = s
after s (n ∷ ns) = after (pushed s n) ns

-- the packets that were closed by the records
abbrev pub closed_by_pushes : Held → List Numbered → List (List ℕ)
closed_by_pushes s [] = []
closed_by_pushes s (n ∷ ns) = (if fits s n then [] else (packet_of s ∷ [])) ++ closed_by_pushes (pushed s n) ns

-- the packet that closing gives then, where a record is open
abbrev pub last_packet : Held → List (List ℕ)
last_packet s = if is_empty s.records then [] else (packet_of s ∷ [])
