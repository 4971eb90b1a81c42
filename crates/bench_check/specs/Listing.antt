-- What is told of a job on the way (own choice): for each step of its controller the line of the frame that it closes,
-- if it closes one, and then the lines of the message that it sends, if it sends one. What these say is left open.
use Rattle.std.specs.Prelude.{◌≡◌, nat_lt, if◌then◌else◌, List, [], ◌∷◌, ◌++◌, Option}
use Rattle.std.specs.Io.KnownBytes.{Appends}
use Rattle.text_lines.specs.Words.{Text}
use Rattle.bc_machine.specs.Running.{MachineState, HasEnded, stepped}
use Rattle.job_file.specs.Jobs.{JobState}
use Rattle.bench_check.specs.FrameLines.{frame_line_at}
use Rattle.bench_check.specs.Overruns.{beginning_of}

-- the lines of the message that the next step sends, where this is their text; none where it sends none
abbrev pub said_at : MachineState → Text → Text
said_at m text = if nat_lt m.point.number (stepped m).point.number then text else []

-- what is told of as many steps as there are texts
abbrev pub listing : MachineState → List Text → Text
listing m [] = []
listing m (text ∷ texts) = frame_line_at m ++ (said_at m text ++ listing (stepped m) texts)

-- the controller behind as many steps
abbrev pub behind : MachineState → List Text → MachineState
behind m [] = m
behind m (text ∷ texts) = behind (stepped m) texts

-- a writer that had got the one has got the other once all is told of the steps of a job up to this controller
pub record HasTold (job : JobState) (m : MachineState) (old new : Option Text) : Type 0 where
  pub texts : List Text
  pub at : behind (beginning_of job) texts ≡ m
  pub told : Appends old new (listing (beginning_of job) texts)

-- the same once all is told of a job, whose controller has ended
pub record IsTold (job : JobState) (old new : Option Text) : Type 0 where
  pub last : MachineState
  pub ended : HasEnded last
  pub told : HasTold job last old new
