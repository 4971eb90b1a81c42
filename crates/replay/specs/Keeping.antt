-- The states at places 0, 64, 128 and so on of the file, as they are kept while job after job is played.
use Rattle.std.specs.Prelude.{◌≡◌, ℕ, ◌+◌, ◌*◌, ◌<◌, ◌≤◌, List, [], ◌∷◌, ◌++◌, length, take, slice_get, Some}
use Rattle.job_file.specs.Jobs.{JobState}
use Rattle.ch11_f1.specs.BodyReading.{Message}
use Rattle.ch11_recording.specs.Items.{last_number}
use Rattle.ch11_reader.specs.Recording.{Found}
use Rattle.bench_report.specs.Reports.{ChannelPart}
use Rattle.replay.specs.declared.standings.Standing.{Standing}
use Rattle.replay.specs.declared.checkpoints.Stop.{Stop}
use Rattle.replay.specs.declared.checkpoints.Due.{Due}
use Rattle.replay.specs.declared.tracks.Mark.{Mark}
use Rattle.replay.specs.declared.playing.Playing.{Playing}
use Rattle.replay.specs.Accord.{kept_in}
use Rattle.replay.specs.Finding.{count_to}
use Rattle.replay.specs.Tracks.{Pair, IsThere}
use Rattle.replay.specs.Playing.{IsPlaying}
use Rattle.replay.specs.Standings.{IsStop, AreCheckpoints}

-- as many as there are such places in a file of so many messages, the end included
pub record AreSpaced (messages count : ℕ) : Type 0 where
  pub enough : messages < 64 * count
  pub within : 64 * count ≤ messages + 64

-- at the first so many of these places the states of one job more are kept than at the others
pub record AreStatesKeptTo (before : List Pair) (p : Pair) (channels : List ℕ) (done : ℕ)
    (stops : List Stop) : Type 0 where
  pub kept : (k : ℕ) (stop : Stop) → k < done → slice_get stops k ≡ Some stop → (stop.place ≡ 64 * k)
      × IsStop (before ++ p ∷ []) channels stop
  pub left : (k : ℕ) (stop : Stop) → done ≤ k → slice_get stops k ≡ Some stop → (stop.place ≡ 64 * k)
      × IsStop before channels stop

-- a job's controller that stands behind the last of so many kept messages
abbrev pub IsBehind : Pair → Standing → Type 0
IsBehind p s = IsThere p.job p.part (last_number (take s.heard (kept_in p.job p.part))) s.machine

-- so many messages of its channel stand before the place of the state that is due
abbrev pub IsCounted : List ℕ → Due → Type 0
IsCounted channels due = due.heard ≡ count_to channels (64 * due.stop) due.channel

-- and not fewer than some number, unless the states at all of so many places are kept
pub record IsDue (channels : List ℕ) (channel least count : ℕ) (due : Due) : Type 0 where
  pub channel_is : due.channel ≡ channel
  pub counted : IsCounted channels due
  pub from : due.stop < count → least ≤ due.heard

-- from the first so many places on to more of them the states of the job are kept whose controller this is
abbrev pub KeepsMoreStates : ℕ → List ℕ → Standing → ℕ → List Stop → ℕ → List Stop → Type 0
KeepsMoreStates channel channels s done old more new =
    (before : List Pair) (p : Pair) → p.job.channel ≡ channel → IsBehind p s
    → AreStatesKeptTo before p channels done old
    → AreStatesKeptTo before p channels more new

-- the states of one job more are kept at all of them
abbrev pub AddsStates : Pair → List ℕ → List Stop → List Stop → Type 0
AddsStates p channels old new = (before : List Pair) → AreCheckpoints before channels old
    → AreCheckpoints (before ++ p ∷ []) channels new

-- The states of a job that are kept so far: those behind the first 64 k messages of the file for each k below that of
-- the state that is due, which stands behind more messages of the channel than the controller.
pub record IsKeeping (p : Pair) (channels : List ℕ) (s : Standing) (due : Due) (old new : List Stop) : Type 0 where
  pub due_is : IsDue channels p.job.channel (s.heard + 1) (length new) due
  pub count : length new ≡ length old
  pub kept : (before : List Pair) → AreCheckpoints before channels old → AreStatesKeptTo before p channels due.stop new

-- So many messages were played, a mark is left of those that were kept, and the states that came before the one that is
-- due are kept.
pub record IsPlayed (found : List Found) (job : JobState) (part : ChannelPart) (channels : List ℕ) (n : ℕ)
    (s : Standing) (rest : List Message) (marks : List Mark) (due : Due) (old new : List Stop) : Type 0 where
  pub playing : IsPlaying found job part n s.machine rest marks
  pub heard : length marks ≡ s.heard + 1
  pub few : s.heard ≤ n
  pub keeping : IsKeeping (record { job = job; part = part }) channels s due old new

-- the same of what the code has in hand
abbrev pub IsPlayedTo : List Found → JobState → ChannelPart → List ℕ → ℕ → Playing → List Message → List Stop
    → List Stop → Type 0
IsPlayedTo found job part channels n p rest old new =
    IsPlayed found job part channels n p.standing rest p.marks.items p.due old new

-- a job before any message: it has left a mark, and its first state is due
pub record IsUnplayed (job : JobState) (part : ChannelPart) (p : Playing) : Type 0 where
  pub heard : p.standing.heard ≡ 0
  pub there : IsThere job part 0 p.standing.machine
  pub due : p.due ≡ record { channel = job.channel; stop = 0; heard = 0 }
  pub mark : Mark
  pub number : mark.number ≡ p.standing.machine.point.number
  pub last : mark.last ≡ p.standing.machine.latest
  pub marks : p.marks.items ≡ mark ∷ []

-- whatever the file is of which so much is left, and whatever states were kept at first: one message more is played
abbrev pub PlaysOn : JobState → ChannelPart → List ℕ → Playing → List Message → List Stop → Playing → List Message
    → List Stop → Type 0
PlaysOn job part channels old heard stops new rest more =
    (found : List Found) (n : ℕ) (first : List Stop) → IsPlayedTo found job part channels n old heard first stops
    → IsPlayedTo found job part channels (n + 1) new rest first more
