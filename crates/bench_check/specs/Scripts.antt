-- The script of a job, as its text has it.
use Rattle.std.specs.Prelude.{List, Option, Some, None}
use Rattle.text_lines.specs.Words.{Text}
use Rattle.job_file.specs.Spelled.{joined_lines, parted}
use Rattle.text_lines.specs.Lines.{lines_of}

-- the lines behind those above the script, as a text
abbrev pub behind : Option (List Text × List Text) → Option Text
behind None = None
behind (Some parts) = Some (joined_lines parts.1)

-- what stands behind the first line `script` of a text
abbrev pub script_in : Text → Option Text
script_in text = behind (parted (lines_of text))
