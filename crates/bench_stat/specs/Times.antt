-- The times of day of the first and the last message of a channel (own choice), by their stamps or by the recording's
-- time packets.
use Rattle.std.specs.Prelude.{◌≡◌, ℕ, ◌^◌, ◌-◌, Bool, if◌then◌else◌, List, map, Option, None, Some, option_map}
use Rattle.ch11_layout.specs.Stamps.{Recorded}
use Rattle.ch11_layout.specs.declared.stamps.StampKind.{StampKind}
use Rattle.bench_clock.specs.declared.clock.Mark.{Mark}
use Rattle.bench_clock.specs.Clock.{time_of_stamp}
use Rattle.bench_clock.specs.Time.{Time, time_of}
use Rattle.bench_stat.specs.Figures.{least, greatest, stamps_of}
use Rattle.bench_stat.specs.declared.times.Times.{Times}
use Rattle.bench_stat.specs.declared.traffic.Traffic.{Traffic}

abbrev pub stamps : List Recorded → List ℕ
stamps history = map (λ (m : Recorded). m.stamp) history

-- the time of day of a stamp, by what the stamps of all messages are; none of no message
abbrev pub time_by_stamps : List Mark → Option StampKind → ℕ → Option Time
time_by_stamps clock None ticks = None
time_by_stamps clock (Some kind) ticks = time_of_stamp clock kind ticks

-- that of the least stamp of messages, and that of the greatest
abbrev pub first_time : List Mark → List Recorded → Option Time
first_time clock history = time_by_stamps clock (stamps_of history) (least (2 ^ 64 - 1) (stamps history))

abbrev pub last_time : List Mark → List Recorded → Option Time
last_time clock history = time_by_stamps clock (stamps_of history) (greatest (stamps history))

-- these are the times of day of the first and the last of messages
pub record AreTimes (clock : List Mark) (history : List Recorded) (times : Times) : Type 0 where
  pub first : option_map (λ t. time_of t) times.first ≡ first_time clock history
  pub last : option_map (λ t. time_of t) times.last ≡ last_time clock history

-- two times of day, each of which may be unknown
abbrev pub Between : Type 0
Between = Option Time × Option Time

abbrev pub between_of : Times → Between
between_of times = (option_map (λ t. time_of t) times.first, option_map (λ t. time_of t) times.last)

abbrev pub between_if : Option Times → Option Between
between_if None = None
between_if (Some times) = Some (between_of times)

-- those of the least and the greatest stamp of what a channel carried
abbrev pub between : List Mark → Traffic → Between
between clock t = (time_by_stamps clock t.stamps t.begin, time_by_stamps clock t.stamps t.last)

-- where they are asked for
abbrev pub asked_times : Bool → List Mark → Traffic → Option Between
asked_times asked clock t = if asked then Some (between clock t) else None
