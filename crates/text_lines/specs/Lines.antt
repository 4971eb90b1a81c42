-- The lines of a text (own choice).
use Rattle.std.specs.Prelude.{ℕ, Bool, ◌==◌, if◌then◌else◌, List, [], ◌∷◌}
use Rattle.std.specs.List.{slice_split}
use Rattle.text_lines.specs.Words.{Text, has_bytes}

abbrev pub is_line_end : ℕ → Bool
is_line_end b = b == 10

-- what stands between line ends
abbrev pub lines_of : Text → List Text
lines_of text = slice_split is_line_end text

-- parts, but for an empty one at the end
abbrev pub without_empty_end : List Text → List Text
without_empty_end [] = []
without_empty_end (part ∷ []) = if has_bytes part then part ∷ [] else []
without_empty_end (part ∷ next ∷ rest) = part ∷ without_empty_end (next ∷ rest)

-- the lines of a text: each ends with LF, which may be missing at the end of the text
unfoldable pub text_lines : Text → List Text
text_lines text = without_empty_end (slice_split is_line_end text)
