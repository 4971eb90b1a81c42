-- One recording behind another (IRIG 106-17 Chapter 11: a recording is a sequence of packets).
use Rattle.std.specs.Prelude.{◌≡◌, ℕ, ◌+◌, false, List, [], ◌++◌, length, map, Ok}
use Rattle.std.specs.List.{AllByRecursion}
use Rattle.ch11_reader.specs.Recording.{Found, packets_in, holds_messages}

-- the packet, so many bytes later in the file
abbrev pub later : ℕ → Found → Found
later by p = record { offset = by + p.offset; header = p.header; messages = p.messages }

-- what two recordings are read as, one behind the other
abbrev pub RecordingsJoin : Type 0
RecordingsJoin =
    (a b : List ℕ) (ps qs : List Found) → packets_in a ≡ Ok ps → packets_in b ≡ Ok qs
    → packets_in (a ++ b) ≡ Ok (ps ++ map (later (length a)) qs)

-- a packet of another type of data has no messages
abbrev pub OthersAreSilent : Type 0
OthersAreSilent =
    (bytes : List ℕ) (ps : List Found) → packets_in bytes ≡ Ok ps
    → AllByRecursion (λ p. holds_messages p.header ≡ false → p.messages ≡ []) ps
