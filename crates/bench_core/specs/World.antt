-- The bench of jobs under settings, as callers of a world see it.
use Rattle.std.specs.Prelude.{◌≡◌, ℕ, ◌+◌, ◌<◌, ◌≤◌, ◌==◌, Bool, true, false, if◌then◌else◌, List, [], ◌∷◌, map, take}
use Rattle.std.specs.Prelude.{length, slice_get, codes, Option, Some, None, Result, Ok, Err}
use Rattle.std.specs.List.{AllByRecursion}
use Rattle.std.specs.VecDeque.{deque_capacity}
use Rattle.bc_machine.specs.declared.placed.HostAction.{HostAction}
use Rattle.bench_report.specs.Reports.{RunReport}
use Rattle.job_file.specs.Jobs.{JobState}
use Rattle.ch11_builder.specs.Held.{Held}
use Rattle.ch11_recording.specs.Recording.{AreDistinct}
use Rattle.ch11_recording.specs.Laws.{IsFormat, IsPrologue}
use Rattle.ch11_recording.specs.WrittenFile.{Format, held_in, written_file, closed_packets}
use Rattle.bench_settings.specs.declared.settings.Settings.{Settings}
use Rattle.bench_core.specs.declared.step.Step.{Step}
use Rattle.bench_core.specs.declared.step.Step.TheVariants.{Offer, Take, Post}
use Rattle.bench_core.specs.declared.error.PlayError.{PlayError}
use Rattle.bench_core.specs.declared.error.PlayError.TheVariants as fault
use Rattle.bench_settings.specs.Lawful.{format_of}
use Rattle.bench_core.specs.Bench.{ChannelState, Bench, begun_channel, begun, after_steps}
use Rattle.bench_core.specs.Settled.{IsSettled, IsFresh, ReadsBack}
use Rattle.bench_core.specs.Channels.{posts_of, may_post, report_part, IsMade}
use Rattle.bench_core.specs.declared.world.World.TheInside.{Inside}

-- the format and the prologue of its file, how many posts of each channel may be placed, and the bench
pub record WorldState : Type 0 where
  pub format : Format
  pub prologue : List ℕ
  pub most : ℕ
  pub bench : Bench

-- jobs under settings, before any step
abbrev pub world_of : List JobState → Settings → WorldState
world_of jobs s = record {
  format = format_of s;
  prologue = s.prologue.items;
  most = s.posts;
  bench = begun s.queue (map begun_channel jobs);
}

abbrev pub with_bench : WorldState → Bench → WorldState
with_bench w b = record { format = w.format; prologue = w.prologue; most = w.most; bench = b }

-- a step of a channel is of one of so many
abbrev pub IsBenchStep : ℕ → Step → Type 0
IsBenchStep channels (Offer index) = index < channels
IsBenchStep channels Take = Unit {0}
IsBenchStep channels (Post index action) = index < channels

abbrev pub AreSteps : ℕ → List Step → Type 0
AreSteps channels steps = AllByRecursion (IsBenchStep channels) steps

abbrev pub channel_count : WorldState → ℕ
channel_count w = length w.bench.channels

abbrev pub may_post_to : Option ChannelState → HostAction → Bool
may_post_to None action = false
may_post_to (Some l) action = may_post l action

-- what is posted for a terminal is for one of its channel
abbrev pub IsForTerminal : List ChannelState → Step → Type 0
IsForTerminal channels (Offer index) = Unit {0}
IsForTerminal channels Take = Unit {0}
IsForTerminal channels (Post index action) = may_post_to (slice_get channels index) action ≡ true

abbrev pub AreForTerminals : List ChannelState → List Step → Type 0
AreForTerminals channels steps = AllByRecursion (IsForTerminal channels) steps

abbrev pub is_post_for : ℕ → Step → Bool
is_post_for index (Offer i) = false
is_post_for index Take = false
is_post_for index (Post i action) = i == index

-- how many of the steps post an action for a channel
abbrev pub posts_for : ℕ → List Step → ℕ
posts_for index [] = 0
posts_for index (s ∷ ss) = (if is_post_for index s then 1 else 0) + posts_for index ss

-- with those of the steps no channel has more posts than may be placed
abbrev pub AreFewPosts : ℕ → List ChannelState → List Step → Type 0
AreFewPosts most channels steps = (index : ℕ) (l : ChannelState) → slice_get channels index ≡ Some l
    → posts_of l + posts_for index steps ≤ most

-- the steps may be taken
pub record MayPlay (steps : List Step) (w : WorldState) : Type 0 where
  pub channels : AreSteps (channel_count w) steps
  pub terminals : AreForTerminals w.bench.channels steps
  pub few : AreFewPosts w.most w.bench.channels steps

-- what steps leave: O1, then O3, then O4 nothing done, O2 the bench after the steps before the refused one
abbrev pub Plays : List Step → WorldState → {U : Type 0} → Result U PlayError → WorldState → Type 0
Plays steps old (Ok u) new = MayPlay steps old × (new ≡ with_bench old (after_steps steps old.bench))
Plays steps old (Err fault.Index) new = ¬ AreSteps (channel_count old) steps × (new ≡ old)
Plays steps old (Err fault.NoTerminal) new = AreSteps (channel_count old) steps
    × ¬ AreForTerminals old.bench.channels steps × (new ≡ old)
Plays steps old (Err fault.Posts) new =
    AreSteps (channel_count old) steps × AreForTerminals old.bench.channels steps
    × ¬ AreFewPosts old.most old.bench.channels steps × (new ≡ old)
Plays steps old (Err (fault.Memory done)) new =
    MayPlay steps old × (done < length steps) × (new ≡ with_bench old (after_steps (take done steps) old.bench))

-- nothing is lost, doubled or out of order, in what was taken and queued and in the file read back
pub record IsWhole (w : WorldState) : Type 0 where
  pub settled : AllByRecursion (IsSettled w.bench) w.bench.channels
  pub read : ReadsBack w.format w.prologue w.bench

-- the bytes of its file, and the packets in it behind the prologue
abbrev pub file_of : WorldState → List ℕ
file_of w = written_file w.format w.prologue w.bench.taken

abbrev pub packets_of : WorldState → List (List ℕ)
packets_of w = closed_packets w.format w.bench.taken

abbrev pub report_of : WorldState → RunReport
report_of w = record { channels = map report_part w.bench.channels; packets = length (packets_of w) }

abbrev pub play_code : PlayError → List ℕ
play_code fault.Index = codes "O1"
play_code (fault.Memory done) = codes "O2"
play_code fault.NoTerminal = codes "O3"
play_code fault.Posts = codes "O4"

-- ---- what its fields keep

-- a bench that steps led to, from channels with different numbers of which no message was made
pub record IsReached (b : Bench) : Type 0 where
  pub channels : List ChannelState
  pub capacity : ℕ
  pub steps : List Step
  pub fresh : AllByRecursion IsFresh channels
  pub distinct : AreDistinct (map (λ l. l.channel) channels)
  pub is : b ≡ after_steps steps (begun capacity channels)

abbrev pub state_in : Inside → WorldState
state_in w = record {
  format = record { version = w.version; limit = w.limit };
  prologue = w.prologue.value.items;
  most = w.most;
  bench = record { channels = w.channels.items; capacity = w.capacity; queue = w.queue.items; taken = w.taken };
}

pub record IsKeptWorld (slots : ℕ) (builders : List Held) (bytes : List ℕ) (count : ℕ) (w : WorldState) : Type 0 where
  pub reached : IsReached w.bench
  pub made : AllByRecursion IsMade w.bench.channels
  pub format : IsFormat w.format
  pub prologue : IsPrologue w.prologue
  pub held : builders ≡ map (λ (l : ChannelState). held_in w.format l.channel w.bench.taken) w.bench.channels
  pub file : bytes ≡ file_of w
  pub packets : count ≡ length (packets_of w)
  pub few : length w.bench.channels ≤ 32
  pub room : w.bench.capacity ≤ slots

abbrev pub IsWorld : Inside → Type 0
IsWorld w = IsKeptWorld (deque_capacity w.queue) w.builders.items w.file.items w.packets (state_in w)
