-- The job that a text spells (own choice): lines that end by LF, then a line `script`, then the script.
use Rattle.std.specs.Prelude.{ℕ, Bool, true, false, if◌then◌else◌, List, [], ◌∷◌, Option, Some, None}
use Rattle.std.specs.Result.{result_ok}
use Rattle.std.specs.List.{join_with_byte}
use Rattle.text_lines.specs.Lines.{lines_of}
use Rattle.text_lines.specs.Words.{Text}
use Rattle.frame_tree.specs.Tree.{Tree}
use Rattle.frame_text.specs.Frames.{tree_of_text}
use Rattle.job_file.specs.Options.{◌>>=◌}
use Rattle.job_file.specs.Lines.{Said, script, said}
use Rattle.job_file.specs.HeadLines.{Head, head_of, are_lawful}
use Rattle.job_file.specs.TimedLines.{Timed}
use Rattle.job_file.specs.Timed.{resolved}
pub use Rattle.job_file.specs.ChannelJobs.{ChannelJob}

-- lines as a text again
abbrev pub joined_lines : List Text → Text
joined_lines lines = join_with_byte 10 lines

abbrev pub is_script : Option Said → Bool
is_script (Some script) = true
is_script _ = false

abbrev pub with_line_above : Text → List Text × List Text → List Text × List Text
with_line_above line parts = (line ∷ parts.0, parts.1)

-- the lines above the first line `script`, and those behind it
abbrev pub parted : List Text → Option (List Text × List Text)
parted [] = None
parted (line ∷ lines) =
    if is_script (said line) then Some ([], lines) else (parted lines >>= (λ parts. Some (with_line_above line parts)))

-- what lines say, where each says something
abbrev pub all_said : List Text → Option (List Said)
all_said [] = Some []
all_said (line ∷ lines) = said line >>= (λ s. all_said lines >>= (λ ss. Some (s ∷ ss)))

abbrev pub lawful : List Said → List Said → Option (List Said)
lawful above lines = if are_lawful above lines then Some lines else None

abbrev pub first_of : List ℕ → Option ℕ
first_of [] = None
first_of (n ∷ ns) = Some n

abbrev pub first_or : ℕ → List ℕ → ℕ
first_or n [] = n
first_or n (m ∷ ms) = m

-- the job of a channel with what the lines above the script say, and the script's tree; one that names no start tick
-- starts at 0
abbrev pub job_with : ℕ → Head → Tree → ChannelJob
job_with channel head tree = record {
  channel = channel;
  start = first_or 0 head.starts;
  addresses = head.addresses;
  actions = head.actions;
  plan = head.plan;
  tree = tree;
}

-- what the lines and the script of a text say: the job with what is placed by number alone, and what is said by time
-- and by command
pub record Written : Type 0 where
  pub job : ChannelJob
  pub timed : Timed

abbrev pub written_with : ℕ → Head → Tree → Written
written_with channel head tree = record { job = job_with channel head tree; timed = head.timed }

-- the lines above the script, and the script: the channel has to be named
abbrev pub written_of : Head → Text → Option Written
written_of head text =
    first_of head.channels >>= (λ channel. result_ok (tree_of_text text) >>=
    (λ tree. Some (written_with channel head tree)))

abbrev pub written_in : List Text → Option Written
written_in lines =
    parted lines >>= (λ parts. all_said parts.0 >>= (λ said. lawful [] said >>= (λ heads.
    written_of (head_of heads) (joined_lines parts.1))))

unfoldable pub written : Text → Option Written
written text = written_in (lines_of text)

-- the job that is meant: what is said by time and by command stands at the numbers at which it is due
abbrev pub job_meant : Option Written → Option ChannelJob
job_meant w = w >>= (λ w. Some (resolved w.job w.timed))

-- the job that a text spells, if it spells one
unfoldable pub spelled : Text → Option ChannelJob
spelled text = job_meant (written text)
