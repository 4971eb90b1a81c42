-- Where the controllers of all jobs stand at a place of the file: behind so many of its messages.
use Rattle.std.specs.Prelude.{◌≡◌, ℕ, ◌+◌, ◌*◌, ◌%◌, ◌<◌, ◌≤◌, ◌⊎◌, List, length, map, take, slice_get, Option, Some}
use Rattle.std.specs.Option.{IfSome}
use Rattle.bc_machine.specs.Running.{MachineState}
use Rattle.job_file.specs.Jobs.{JobState, job_in}
use Rattle.job_file.specs.Machines.{IsOf}
use Rattle.ch11_recording.specs.Items.{last_number}
use Rattle.bench_report.specs.Reports.{ChannelPart}
use Rattle.replay.specs.declared.standings.Standing.{Standing}
use Rattle.replay.specs.declared.standings.Kept.{Kept}
use Rattle.replay.specs.declared.checkpoints.Stop.{Stop}
use Rattle.replay.specs.declared.timeline.Timeline.{Timeline}
use Rattle.replay.specs.Accord.{kept_in}
use Rattle.replay.specs.Finding.{count_to}
use Rattle.replay.specs.Moves.{IsIn}
use Rattle.replay.specs.Tracks.{Pair, IsThere}

-- a controller that stands behind the last of so many kept messages of its job, as many as there are before a place,
-- where these are the channels of all messages
pub record IsAt (channels : List ℕ) (place : ℕ) (p : Pair) (heard : ℕ) (m : MachineState) : Type 0 where
  pub heard_is : heard ≡ count_to channels place p.job.channel
  pub there : IsThere p.job p.part (last_number (take heard (kept_in p.job p.part))) m

-- a job has no more messages in the file than were kept
abbrev pub HasNoExtraMessages : List ℕ → Pair → Type 0
HasNoExtraMessages channels p = count_to channels (length channels) p.job.channel ≤ length (kept_in p.job p.part)

-- no job has more
abbrev pub HaveNoExtraMessages : List Pair → List ℕ → Type 0
HaveNoExtraMessages pairs channels = (i : ℕ) (p : Pair) → slice_get pairs i ≡ Some p → HasNoExtraMessages channels p

-- each job has a controller of its own
pub record AreOf (pairs : List Pair) (all : List Standing) : Type 0 where
  pub long : length all ≡ length pairs
  pub each : (i : ℕ) (p : Pair) (s : Standing) → slice_get pairs i ≡ Some p → slice_get all i ≡ Some s
      → IsOf (job_in p.job) p.part.placed s.machine

-- each job has its controller at the place
pub record AreAt (pairs : List Pair) (channels : List ℕ) (place : ℕ) (all : List Standing) : Type 0 where
  pub long : length all ≡ length pairs
  pub each : (i : ℕ) (p : Pair) (s : Standing) → slice_get pairs i ≡ Some p → slice_get all i ≡ Some s
      → IsAt channels place p s.heard s.machine

-- the first so many controllers stand at one place, the others at another
pub record AreUpTo (pairs : List Pair) (channels : List ℕ) (from to done : ℕ) (all : List Standing) : Type 0 where
  pub long : length all ≡ length pairs
  pub there : (i : ℕ) (p : Pair) (s : Standing) → i < done → slice_get pairs i ≡ Some p → slice_get all i ≡ Some s
      → IsAt channels to p s.heard s.machine
  pub left : (i : ℕ) (p : Pair) (s : Standing) → done ≤ i → slice_get pairs i ≡ Some p → slice_get all i ≡ Some s
      → IsAt channels from p s.heard s.machine

-- what is kept of a standing
abbrev pub saved_of : Standing → Kept
saved_of s = record { heard = s.heard; saved = s.machine }

-- each job's controller at the place is kept
pub record AreKept (pairs : List Pair) (channels : List ℕ) (place : ℕ) (all : List Kept) : Type 0 where
  pub long : length all ≡ length pairs
  pub each : (i : ℕ) (p : Pair) (k : Kept) → slice_get pairs i ≡ Some p → slice_get all i ≡ Some k
      → IsAt channels place p k.heard k.saved

abbrev pub IsStop : List Pair → List ℕ → Stop → Type 0
IsStop pairs channels stop = AreKept pairs channels stop.place stop.states.items

-- the states at places 0, 64, 128 and so on
abbrev pub AreCheckpoints : List Pair → List ℕ → List Stop → Type 0
AreCheckpoints pairs channels stops = (k : ℕ) (stop : Stop) → slice_get stops k ≡ Some stop → (stop.place ≡ 64 * k)
    × IsStop pairs channels stop

-- checkpoints at places 0, 64, 128 and so on
abbrev pub AreApart : List Stop → Type 0
AreApart stops = (k : ℕ) (stop : Stop) → slice_get stops k ≡ Some stop → stop.place ≡ 64 * k

-- states at whatever places
abbrev pub AreStops : List Pair → List ℕ → List Stop → Type 0
AreStops pairs channels stops = (k : ℕ) (stop : Stop) → slice_get stops k ≡ Some stop → IsStop pairs channels stop

-- these states are among those
abbrev pub IsAmong : List Stop → Stop → Type 0
IsAmong whole stop = (k : ℕ) × (slice_get whole k ≡ Some stop)

-- each of these is
abbrev pub AreAmong : List Stop → List Stop → Type 0
AreAmong whole stops = (k : ℕ) (stop : Stop) → slice_get stops k ≡ Some stop → IsAmong whole stop

-- whatever states they and what was taken out of them were among, they are still
abbrev pub StopsTurn : List Stop → Option Stop → List Stop → Option Stop → Type 0
StopsTurn old out new taken =
    (whole : List Stop) → AreAmong whole old → IfSome out (IsAmong whole)
    → AreAmong whole new × IfSome taken (IsAmong whole)

-- each of the later ones is among the earlier, or was saved
abbrev pub StopsGain : List Stop → Option Stop → List Stop → Type 0
StopsGain old saved new =
    (k : ℕ) (stop : Stop) → slice_get new k ≡ Some stop → IsAmong old stop ⊎ (saved ≡ Some stop)

-- the places of states
abbrev pub places_of : List Stop → List ℕ
places_of stops = map (λ (stop : Stop). stop.place) stops

-- controllers at a place, where it is known at which
abbrev pub StandAt : List Pair → List ℕ → Option ℕ → List Standing → Type 0
StandAt pairs channels at all = IfSome at (λ place. AreAt pairs channels place all)

pub record IsTimeline (t : Timeline) (place : ℕ) : Type 0 where
  pub room : HaveNoExtraMessages t.tracks.items t.channels.items
  pub live : AreAt t.tracks.items t.channels.items place t.live.items
  pub next : AreOf t.tracks.items t.next.items
  pub next_at : StandAt t.tracks.items t.channels.items t.next_at t.next.items
  pub checkpoints : AreCheckpoints t.tracks.items t.channels.items t.checkpoints.items
  pub enough : length t.channels.items < 64 * length t.checkpoints.items
  pub recent : AreStops t.tracks.items t.channels.items t.recent.items
  pub capacity : t.recent.capacity ≡ 32

-- the states of a place are among these
pub record Has (stops : List Stop) (place : ℕ) : Type 0 where
  pub at : ℕ
  pub stop : Stop
  pub there : slice_get stops at ≡ Some stop
  pub place_is : stop.place ≡ place

-- the states of a place are kept: it is that of a checkpoint, or one of the latest
abbrev pub IsNoted : List Stop → ℕ → Type 0
IsNoted recent place = (place % 64 ≡ 0) ⊎ Has recent place

-- the states of the nearest place at or below this one: at most 63 messages before it, and not before any that were
-- kept lately
pub record IsNearest (checkpoints recent : List Stop) (place : ℕ) (stop : Stop) : Type 0 where
  pub one : ((k : ℕ) × (slice_get checkpoints k ≡ Some stop)) ⊎ ((k : ℕ) × (slice_get recent k ≡ Some stop))
  pub below : stop.place ≤ place
  pub near : place ≤ stop.place + place % 64
  pub latest : (k : ℕ) (other : Stop) → slice_get recent k ≡ Some other → other.place ≤ place → other.place ≤ stop.place

-- controllers before any message
abbrev pub AreFirst : List JobState → List ChannelPart → List Standing → Type 0
AreFirst jobs parts all =
    (i : ℕ) (job : JobState) (part : ChannelPart) (s : Standing) → slice_get jobs i ≡ Some job
    → slice_get parts i ≡ Some part → slice_get all i ≡ Some s
    → (s.heard ≡ 0) × IsThere job part 0 s.machine

-- one for each job
pub record AreBegun (jobs : List JobState) (parts : List ChannelPart) (all : List Standing) : Type 0 where
  pub long : length all ≡ length jobs
  pub each : AreFirst jobs parts all

-- the first so many controllers were taken to what is kept, and all are still the jobs'
pub record AreRestored (pairs : List Pair) (kept : List Kept) (done : ℕ) (all : List Standing) : Type 0 where
  pub of : AreOf pairs all
  pub there : (i : ℕ) (s : Standing) (k : Kept) → i < done → slice_get all i ≡ Some s → slice_get kept i ≡ Some k
      → saved_of s ≡ k

-- A place from which a move may play: the nearest that is not past where it ends, of the multiples of 64, those at
-- which states are kept, and the one where it begins.
pub record IsStart (kept : List ℕ) (from to start : ℕ) : Type 0 where
  pub at_hand : (start % 64 ≡ 0) ⊎ ((start ≡ from) ⊎ IsIn kept start)
  pub within : start ≤ to
  pub round : to ≤ start + to % 64
  pub begun : from ≤ to → from ≤ start
  pub nearest : (place : ℕ) → IsIn kept place → place ≤ to → place ≤ start
