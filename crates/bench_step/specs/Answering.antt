-- What a session reads and writes.
use Rattle.std.specs.Prelude.{◌≡◌, ◌≢◌, ℕ, Bool, true, false, List, [], ◌∷◌, ◌++◌, ◌⊎◌, if◌then◌else◌, Option, Some}
use Rattle.std.specs.Prelude.{IfSome, Ok, Err}
use Rattle.std.specs.List.{list_any}
use Rattle.std.specs.Io.KnownBytes.{Appends}
use Rattle.std.specs.declared.io.ErrorKind.{ErrorKind}
use Rattle.std.specs.declared.io.ErrorKind.TheVariants.{OutOfMemory}
use Rattle.text_lines.specs.Words.{Text}
use Rattle.job_file.specs.Jobs.{JobState}
use Rattle.bench_report.specs.Reports.{ChannelPart}
use Rattle.text_lines.specs.Lines.{text_lines}
use Rattle.ch11_reader.specs.declared.error.ReadError.{ReadError}
use Rattle.ch11_reader.specs.declared.error.ReadError.TheVariants as unread
use Rattle.ch11_reader.specs.Recording.{packets_in}
use Rattle.ch11_reader.specs.Indexed.{found_in}
use Rattle.replay.specs.Accord.{Agrees}
use Rattle.replay.specs.Differences.{IsFirstDifference}
use Rattle.replay.specs.Moves.{ReplayState}
use Rattle.bench_step.specs.Commands.{Asked, quit, asked}
use Rattle.bench_step.specs.Session.{Replies, after_reply, answer_text, is_memory, is_end, AreReplies}
use Rattle.bench_step.specs.Session.{after_replies, session_text, any_memory}
use Rattle.bench_step.specs.Shown.{IsShown, jobs_under}
use Rattle.bench_step.specs.declared.manners.Manner.{Manner}
use Rattle.bench_step.specs.declared.replies.Reply.{Reply}
use Rattle.bench_step.specs.declared.fault.StepFault.{StepFault}
use Rattle.bench_step.specs.declared.fault.StepFault.TheVariants as fault

-- a line was answered: from one state to the next, with what the writer got, and whether memory was refused, and the
-- session ends
pub record IsLineAnswered (manner : Manner) (old new : ReplayState) (line : Text) (got gets : Option (List ℕ))
    (refused ends : Bool) : Type 0 where
  pub reply : Reply
  pub lawful : Replies old (asked manner line) reply
  pub after : new ≡ after_reply reply old
  pub printed : Appends got gets (answer_text manner reply new)
  pub memory : refused ≡ is_memory reply
  pub end : ends ≡ is_end reply

-- Lines were answered from a state on. Where the reader's bytes are known, they are the first lines of its text, and
-- these bytes are left of it.
pub record IsSession (manner : Manner) (s new : ReplayState) (left leaves got gets : Option (List ℕ))
    (refused : Bool) : Type 0 where
  pub lines : List Text
  pub replies : List Reply
  pub read : IfSome left (λ text. (rest : List ℕ) × (leaves ≡ Some rest) × (text_lines text ≡ lines ++ text_lines rest))
  pub lawful : AreReplies manner s lines replies
  pub after : new ≡ after_replies replies s
  pub printed : Appends got gets (session_text manner replies s)
  pub memory : refused ≡ any_memory replies

-- a line that ends the session
abbrev pub is_quit : Asked → Bool
is_quit quit = true
is_quit _ = false

-- the lines up to the first that ends the session, that one too
abbrev pub up_to_quit : Manner → List Text → List Text
up_to_quit manner [] = []
up_to_quit manner (line ∷ lines) = if is_quit (asked manner line) then line ∷ [] else line ∷ up_to_quit manner lines

-- some line ends it
abbrev pub any_quit : Manner → List Text → Bool
any_quit manner lines = list_any (λ (line : Text). is_quit (asked manner line)) lines

-- the state in which a debugger is opened
abbrev pub opened_on : List JobState → List ChannelPart → List ℕ → ReplayState
opened_on jobs parts recording = record { jobs = jobs; parts = parts; found = found_in recording; place = 0 }

-- jobs, report and recording are accepted
pub record MayBeDebugged (jobs : List JobState) (parts : List ChannelPart) (recording : List ℕ) : Type 0 where
  pub readable : packets_in recording ≡ Ok (found_in recording)
  pub agrees : Agrees jobs parts (found_in recording)

-- where the reader's bytes are known, none is left
abbrev pub IsEnded : Option (List ℕ) → Option (List ℕ) → Type 0
IsEnded left leaves = IfSome left (λ text. leaves ≡ Some [])

-- All lines were answered, up to the first that ends the session. Where none ends it, nothing is left.
pub record IsAllRead (manner : Manner) (s new : ReplayState) (left leaves got gets : Option (List ℕ))
    (refused : Bool) : Type 0 where
  pub session : IsSession manner s new left leaves got gets refused
  pub all : IfSome left (λ text. session.lines ≡ up_to_quit manner (text_lines text))
  pub ended : any_quit manner session.lines ≡ false → IsEnded left leaves

-- they were accepted, and all those lines were answered; whether memory was refused for one of them
pub record IsThrough (manner : Manner) (jobs : List JobState) (parts : List ChannelPart) (recording : List ℕ)
    (left leaves got gets : Option (List ℕ)) (refused : Bool) : Type 0 where
  pub accepted : MayBeDebugged jobs parts recording
  pub last : ReplayState
  pub read : IsAllRead manner (opened_on jobs parts recording) last left leaves got gets refused

-- a debugger, and the manner in which lines are answered
pub record SessionState : Type 0 where
  pub debugger : ReplayState
  pub manner : Manner

-- those whose states are shown were accepted, and all those lines were answered, for none of which memory was refused
abbrev pub IsWholeSession : Manner → List JobState → List ChannelPart → List ℕ
    → Option (List ℕ) → Option (List ℕ) → Option (List ℕ) → Option (List ℕ) → Type 0
IsWholeSession manner jobs parts recording left leaves got gets =
    (shown : List JobState) × IsShown jobs parts recording shown
    × IsThrough manner shown parts recording left leaves got gets false

-- the fault of a reader whose error is of this kind
abbrev pub IsReaders : ErrorKind → StepFault → Type 0
IsReaders kind (fault.Refused r) = ⊥
IsReaders kind (fault.Mismatch channel number) = ⊥
IsReaders kind fault.Memory = ⊥
IsReaders kind fault.LineMemory = kind ≡ OutOfMemory
IsReaders kind fault.Input = kind ≢ OutOfMemory
IsReaders kind fault.Output = ⊥

-- the first lines were answered, and the writer got no more than their answers
pub record IsFront (manner : Manner) (s : ReplayState) (left got gets : Option (List ℕ)) : Type 0 where
  pub last : ReplayState
  pub leaves : Option (List ℕ)
  pub refused : Bool
  pub session : IsSession manner s last left leaves got gets refused

-- a session was cut short by its reader, or by its writer, of which nothing more is known
abbrev pub IsCutShort : Manner → ReplayState → Option (List ℕ) → Option (List ℕ) → Option (List ℕ) → StepFault → Type 0
IsCutShort manner s left got gets (fault.Refused r) = ⊥
IsCutShort manner s left got gets (fault.Mismatch channel number) = ⊥
IsCutShort manner s left got gets fault.Memory = ⊥
IsCutShort manner s left got gets fault.LineMemory = IsFront manner s left got gets
IsCutShort manner s left got gets fault.Input = IsFront manner s left got gets
IsCutShort manner s left got gets fault.Output = Unit {0}

-- the fault of a recording that was not indexed
abbrev pub fault_of : ReadError → StepFault
fault_of (unread.Refused r) = fault.Refused r
fault_of unread.Memory = fault.Memory

-- Why a debugger was not opened. The recording's fault comes first, and only where it has one; then the first
-- difference between jobs, report and recording; want of memory where the recording can be read.
abbrev pub IsOpeningRefusal : List JobState → List ChannelPart → List ℕ → StepFault → Type 0
IsOpeningRefusal jobs parts recording (fault.Refused r) = packets_in recording ≡ Err r
IsOpeningRefusal jobs parts recording (fault.Mismatch channel number) =
    (packets_in recording ≡ Ok (found_in recording)) × IsFirstDifference jobs parts (found_in recording) channel number
IsOpeningRefusal jobs parts recording fault.Memory = packets_in recording ≡ Ok (found_in recording)
IsOpeningRefusal jobs parts recording fault.LineMemory = ⊥
IsOpeningRefusal jobs parts recording fault.Input = ⊥
IsOpeningRefusal jobs parts recording fault.Output = ⊥

-- The same of the jobs whose states would have been shown. Y1 comes only where neither the jobs as they were given agree
-- with report and recording, nor those under the faults that are due where the report says that actions were placed; it
-- names the first difference of these.
abbrev pub IsRefusal : List JobState → List ChannelPart → List ℕ → StepFault → Type 0
IsRefusal jobs parts recording (fault.Mismatch channel number) = (¬ Agrees jobs parts (found_in recording))
    × IsOpeningRefusal (jobs_under jobs parts) parts recording (fault.Mismatch channel number)
IsRefusal jobs parts recording (fault.Refused r) = IsOpeningRefusal jobs parts recording (fault.Refused r)
IsRefusal jobs parts recording fault.Memory = IsOpeningRefusal jobs parts recording fault.Memory
IsRefusal jobs parts recording fault.LineMemory = ⊥
IsRefusal jobs parts recording fault.Input = ⊥
IsRefusal jobs parts recording fault.Output = ⊥

-- nothing was read, and nothing printed
pub record IsUntouched (left leaves got gets : Option (List ℕ)) : Type 0 where
  pub reader : leaves ≡ left
  pub writer : gets ≡ got

-- they were accepted, and the session was cut short
abbrev pub IsBegun : Manner → List JobState → List ChannelPart → List ℕ → Option (List ℕ) → Option (List ℕ)
    → Option (List ℕ) → StepFault → Type 0
IsBegun manner jobs parts recording left got gets f = MayBeDebugged jobs parts recording
    × IsCutShort manner (opened_on jobs parts recording) left got gets f

-- The debugger was not opened, and no line was read; or its session was cut short; or all lines were answered, up to
-- the first that ends it, and memory was refused for what some of them asks.
abbrev pub Ends : Manner → List JobState → List ChannelPart → List ℕ → Option (List ℕ) → Option (List ℕ)
    → Option (List ℕ) → Option (List ℕ) → StepFault → Type 0
Ends manner jobs parts recording left leaves got gets f =
    (IsRefusal jobs parts recording f × IsUntouched left leaves got gets)
    ⊎ ((shown : List JobState) × IsShown jobs parts recording shown
    × (IsBegun manner shown parts recording left got gets f
    ⊎ ((f ≡ fault.Memory) × IsThrough manner shown parts recording left leaves got gets true)))
