-- Messages whose bus words take so few bytes that the 16 bits of their length count them, as all of a body do.
use Rattle.std.specs.Prelude.{◌<◌, ◌^◌, List, length}
use Rattle.std.specs.List.{AllByRecursion}
use Rattle.ch11_f1.specs.BodyReading.{Message}

abbrev pub IsShort : Message → Type 0
IsShort m = length m.bytes < 2 ^ 16

abbrev pub AreShort : List Message → Type 0
AreShort ms = AllByRecursion IsShort ms
