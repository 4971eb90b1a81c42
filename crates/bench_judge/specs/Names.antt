-- The texts of rules, by their lines (own choice).
use Rattle.std.specs.Prelude.{◌≡◌, ℕ, ◌-◌, List, [], ◌∷◌, length, take, drop}
use Rattle.std.specs.Char.{is_ascii_whitespace}
use Rattle.std.specs.List.{prefix_len, suffix_len}
use Rattle.text_lines.specs.Words.{Text}
use Rattle.text_lines.specs.Lines.{text_lines}
use Rattle.bench_judge.specs.declared.names.Names.{Names}

abbrev from_space : Text → Text
from_space text = drop (prefix_len is_ascii_whitespace text) text

abbrev to_space : Text → Text
to_space text = take (length text - suffix_len is_ascii_whitespace text) text

-- a text without white space around it
abbrev pub trimmed : Text → Text
trimmed text = to_space (from_space text)

abbrev pub first_of : List Text → Text
first_of [] = []
first_of (line ∷ lines) = line

-- the text of a line, counted from 1, without white space around it
abbrev pub rule_text : Text → ℕ → Text
rule_text text line = trimmed (first_of (drop (line - 1) (text_lines text)))

-- what is left of a text is what stands behind so many of its lines
abbrev pub AreLeft : Names → Type 0
AreLeft names = text_lines names.rest.now ≡ drop names.behind (text_lines names.text.now)
