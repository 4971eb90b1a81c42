-- A condition that each line has for itself (inside the terminal).
use Rattle.std.specs.Prelude.{Bool}
use Rattle.mil_word.specs.declared.Line.{Line}
use Rattle.mil_word.specs.declared.Line.TheVariants.{A, B}
use Rattle.mil_terminal.specs.declared.by_lines.ByLine.{ByLine}

abbrev pub on_line : ByLine → Line → Bool
on_line c A = c.a
on_line c B = c.b

abbrev pub with_line : ByLine → Line → Bool → ByLine
with_line c A on = record c { a = on }
with_line c B on = record c { b = on }
