-- The text of a setup record (IRIG 106-17 Chapter 9: general information, recorder-reproducer attributes). Which
-- attributes it has is an own choice.
use Rattle.std.specs.Prelude.{ℕ, ◌+◌, List, [], ◌∷◌, ◌++◌, length, codes, decimal}
use Rattle.bench_names.specs.declared.describing.Described.{Described}
use Rattle.bench_names.specs.declared.describing.Holds.{Holds}
use Rattle.bench_names.specs.declared.describing.Holds.TheVariants.{Messages, Times, Others}

-- an attribute on a line
unfoldable pub attribute : List ℕ → List ℕ → List ℕ
attribute name value = name ++ (codes ":" ++ (value ++ codes ";\n"))

-- one of the channel at a place
unfoldable pub numbered : List ℕ → ℕ → List ℕ → List ℕ
numbered name place value = name ++ attribute (decimal place) value

-- program and recorder, and how many channels there are
unfoldable pub recorder : ℕ → List ℕ
recorder channels =
    attribute (codes "G\\PN") (codes "Recording") ++ (attribute (codes "G\\DSI\\N") (codes "1")
    ++ (attribute (codes "G\\DSI-1") (codes "Recorder") ++ (attribute (codes "R-1\\ID") (codes "Recorder")
    ++ attribute (codes "R-1\\N") (decimal channels))))

-- the type of a channel's data, where it is known
unfoldable pub data_type : ℕ → Holds → List ℕ
data_type place Messages = numbered (codes "R-1\\CDT-") place (codes "1553IN")
data_type place Times = numbered (codes "R-1\\CDT-") place (codes "TIMEIN")
data_type place Others = []

-- what a channel of a number is called, behind the name of an attribute
unfoldable pub called : List ℕ → List ℕ
called number = codes ":Channel " ++ (number ++ codes ";\n")

-- a channel's name
unfoldable pub source : ℕ → ℕ → List ℕ
source place number = codes "R-1\\DSI-" ++ (decimal place ++ called (decimal number))

-- the channel at a place: its number, that it is enabled, its name and its type
unfoldable pub described : ℕ → Described → List ℕ
described place c =
    numbered (codes "R-1\\TK1-") place (decimal c.number) ++ (numbered (codes "R-1\\CHE-") place (codes "T")
    ++ (source place c.number ++ data_type place c.holds))

-- channels, from a place on
abbrev pub each : ℕ → List Described → List ℕ
each place [] = []
each place (c ∷ cs) = described place c ++ each (place + 1) cs

unfoldable pub setup_text : List Described → List ℕ
setup_text channels = recorder (length channels) ++ each 1 channels
