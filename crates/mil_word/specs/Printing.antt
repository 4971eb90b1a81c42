-- The letter of a line of the bus (own choice).
use Rattle.std.specs.Prelude.{ℕ, List, codes}
use Rattle.mil_word.specs.declared.Line.{Line}
use Rattle.mil_word.specs.declared.Line.TheVariants.{A, B}

abbrev pub line_text : Line → List ℕ
line_text A = codes "A"
line_text B = codes "B"
