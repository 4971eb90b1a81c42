-- How messages follow one another (own choice). A gap is measured from the middle of a parity bit to the middle of a
-- sync, which is 20 ticks where nothing lies between (4.3.3.7).
use Rattle.std.specs.Prelude.{ℕ, ◌+◌, ◌-◌, ◌^◌, Bool, nat_lt, if◌then◌else◌, List, [], ◌∷◌, ◌++◌, length}
use Rattle.std.specs.Prelude.{Option, None, Some, min, max}
use Rattle.std.specs.List.{count_by}
use Rattle.mil_word.specs.Timing.{contiguous_gap}
use Rattle.ch11_layout.specs.Stamps.{Recorded}
use Rattle.bench_stat.specs.declared.flows.Flow.{Flow}
use Rattle.bench_stat.specs.Sendings.{is_failed}
use Rattle.ch11_reader.specs.Contents.{capped}
use Rattle.bench_stat.specs.Figures.{one_if, least, greatest}
use Rattle.bench_stat.specs.Stretches.{latest_stamp}
pub use Rattle.bench_stat.specs.Measures.{end_of}

-- the end of the latest of messages that stand newest first
abbrev pub latest_end : List Recorded → Option ℕ
latest_end [] = None
latest_end (m ∷ earlier) = Some (end_of m)

-- the gap between a message and one before it that ended then, in ticks
abbrev pub gap_behind : ℕ → Recorded → ℕ
gap_behind end m = capped (m.stamp - end + contiguous_gap)

-- that between a message and the one before it; none where the stamp falls, since another recording begins there
abbrev pub gap_before : List Recorded → Recorded → List ℕ
gap_before [] m = []
gap_before (latest ∷ earlier) m = if nat_lt m.stamp latest.stamp then [] else gap_behind (end_of latest) m ∷ []

-- the gaps between messages that stand newest first
abbrev pub gaps : List Recorded → List ℕ
gaps [] = []
gaps (m ∷ earlier) = gap_before earlier m ++ gaps earlier

-- a flow, in which an error is told so
abbrev pub flow_by : (Recorded → Bool) → List Recorded → Flow
flow_by failed history = record {
  messages = capped (length history);
  errors = capped (count_by failed history);
  begun = latest_stamp history;
  ended = latest_end history;
  least_gap = least (2 ^ 64 - 1) (gaps history);
  greatest_gap = greatest (gaps history);
}

abbrev pub flow_of : List Recorded → Flow
flow_of history = flow_by is_failed history

-- a flow with one more gap, and with one more message
abbrev pub with_this_gap : ℕ → Flow → Flow
with_this_gap gap f = record f { least_gap = min gap f.least_gap; greatest_gap = max gap f.greatest_gap }

abbrev pub with_gap : Option ℕ → Recorded → Flow → Flow
with_gap None m f = f
with_gap (Some end) m f = if nat_lt m.stamp f.begun then f else with_this_gap (gap_behind end m) f

abbrev pub with_message_by : Bool → Recorded → Flow → Flow
with_message_by failed m f = record (with_gap f.ended m f) {
  messages = capped (f.messages + 1);
  errors = capped (f.errors + one_if failed);
  begun = m.stamp;
  ended = Some (end_of m);
}

abbrev pub with_message : Recorded → Flow → Flow
with_message m f = with_message_by (is_failed m) m f
