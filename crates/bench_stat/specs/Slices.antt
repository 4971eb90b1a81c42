-- The load of a channel over time (own choice): for each slice of a span, how long messages take of it, in ticks.
use Rattle.std.specs.Prelude.{◌≡◌, ℕ, ◌+◌, ◌-◌, List, length, min, max}
use Rattle.std.specs.List.{sum_by, All}
use Rattle.ch11_layout.specs.Stamps.{Recorded}
use Rattle.bench_stat.specs.declared.slices.Slice.{Slice}
use Rattle.ch11_reader.specs.Contents.{capped}
use Rattle.bench_stat.specs.Flows.{end_of}

-- how long a message takes of the time from one tick up to another
abbrev pub overlap : ℕ → ℕ → Recorded → ℕ
overlap begin end m = min end (end_of m) - max begin m.stamp

abbrev pub busy_in : ℕ → ℕ → List Recorded → ℕ
busy_in begin end history = capped (sum_by (overlap begin end) history)

-- how many slices a span is shown in
abbrev pub slices_in_span : ℕ
slices_in_span = 20

-- a slice has its part of the messages' time
abbrev pub IsBusy : List Recorded → Slice → Type 0
IsBusy history s = s.busy ≡ busy_in s.begin s.«end» history

-- so has each of as many slices
pub record AreBusy (history : List Recorded) (slices : List Slice) : Type 0 where
  pub many : length slices ≡ slices_in_span
  pub each : All (IsBusy history) slices

-- one more message
abbrev pub with_part : Recorded → Slice → Slice
with_part m s = record s { busy = capped (s.busy + overlap s.begin s.«end» m) }
