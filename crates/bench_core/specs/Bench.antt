-- The bench, one step at a time (own choice). Each channel makes its messages in order and offers each once to one
-- queue; a number that the full queue does not take is listed as refused. Behind its last message a channel offers its
-- end mark until it is taken. The writer takes what stands in front of the queue. An action that a host posts to a
-- channel, for a terminal or for the controller, acts at the channel's next message, behind what is placed there.
use Rattle.std.specs.Prelude.{ℕ, ◌+◌, nat_lt, Bool, false, true, not, ◌||◌, if◌then◌else◌, List, [], ◌∷◌, ◌++◌, length}
use Rattle.std.specs.Prelude.{slice_get, slice_set, Option, Some, None}
use Rattle.ch11_f1.specs.declared.Record.{Record}
use Rattle.bc_machine.specs.declared.placed.Placed.{Placed}
use Rattle.bc_machine.specs.declared.placed.HostAction.{HostAction}
use Rattle.job_file.specs.Jobs.{JobState, job_in}
use Rattle.job_file.specs.Meaning.{records}
use Rattle.ch11_recording.specs.declared.item.Item.{Item}
use Rattle.ch11_recording.specs.declared.item.Item.TheVariants as item
use Rattle.bench_core.specs.declared.step.Step.{Step}
use Rattle.bench_core.specs.declared.step.Step.TheVariants.{Offer, Take, Post}

-- a channel: its number, its job, the placed actions, which at first are the job's, how many messages it has made, the
-- numbers of those that were refused, and whether its end mark was taken into the queue
pub record ChannelState : Type 0 where
  pub channel : ℕ
  pub job : JobState
  pub placed : List Placed
  pub made : ℕ
  pub refused : List ℕ
  pub ended : Bool

-- the channels, the queue with how many items it holds at most, its front first, and what the writer has taken, in that
-- order
pub record Bench : Type 0 where
  pub channels : List ChannelState
  pub capacity : ℕ
  pub queue : List Item
  pub taken : List Item

-- nothing was made yet
abbrev pub begun_channel : JobState → ChannelState
begun_channel job = record {
  channel = job.channel;
  job = job;
  placed = job.actions;
  made = 0;
  refused = [];
  ended = false;
}

-- the records of all messages that its job means under the placed actions
abbrev pub all_records : ChannelState → List Record
all_records l = records (job_in l.job) l.placed

abbrev pub begun : ℕ → List ChannelState → Bench
begun capacity channels = record { channels = channels; capacity = capacity; queue = []; taken = [] }

abbrev pub has_room : Bench → Bool
has_room b = nat_lt (length b.queue) b.capacity

-- one more message of a channel was made; where the queue did not take it, its number is refused
abbrev pub with_message : ChannelState → Bool → ChannelState
with_message l kept = record {
  channel = l.channel;
  job = l.job;
  placed = l.placed;
  made = l.made + 1;
  refused = if kept then l.refused else (l.refused ++ (l.made + 1) ∷ []);
  ended = l.ended;
}

abbrev pub with_end : ChannelState → ChannelState
with_end l = record {
  channel = l.channel;
  job = l.job;
  placed = l.placed;
  made = l.made;
  refused = l.refused;
  ended = true;
}

abbrev pub message_of : ChannelState → Record → Item
message_of l r = item.Message l.channel (l.made + 1) r

-- a channel offers its next message
abbrev pub message_offered : ℕ → ChannelState → Record → Bench → Bench
message_offered index l r b = record {
  channels = slice_set b.channels index (with_message l (has_room b));
  capacity = b.capacity;
  queue = if has_room b then (b.queue ++ message_of l r ∷ []) else b.queue;
  taken = b.taken;
}

-- a channel offers its end mark, once and where there is room
abbrev pub end_offered : ℕ → ChannelState → Bench → Bench
end_offered index l b =
    if l.ended || not (has_room b) then b
    else record {
      channels = slice_set b.channels index (with_end l);
      capacity = b.capacity;
      queue = b.queue ++ item.End l.channel ∷ [];
      taken = b.taken;
    }

abbrev pub next_offered : ℕ → ChannelState → Option Record → Bench → Bench
next_offered index l (Some r) b = message_offered index l r b
next_offered index l None b = end_offered index l b

-- the record of its next message; a channel makes none behind its end mark
abbrev pub next_in : ChannelState → Option Record
next_in l = if l.ended then None else slice_get (all_records l) l.made

abbrev pub channel_offers : ℕ → Option ChannelState → Bench → Bench
channel_offers index None b = b
channel_offers index (Some l) b = next_offered index l (next_in l) b

-- the channel at an index offers what comes next
abbrev pub offered : ℕ → Bench → Bench
offered index b = channel_offers index (slice_get b.channels index) b

-- the writer takes the front of a queue
abbrev pub taken_from : List Item → Bench → Bench
taken_from [] b = b
taken_from (x ∷ behind) b =
    record { channels = b.channels; capacity = b.capacity; queue = behind; taken = b.taken ++ x ∷ [] }

-- an action was posted to a channel, for a terminal or for the controller
abbrev pub with_post : ChannelState → HostAction → ChannelState
with_post l action = record {
  channel = l.channel;
  job = l.job;
  placed = l.placed ++ record { number = l.made + 1; action = action } ∷ [];
  made = l.made;
  refused = l.refused;
  ended = l.ended;
}

abbrev pub channel_posts : ℕ → Option ChannelState → HostAction → Bench → Bench
channel_posts index None action b = b
channel_posts index (Some l) action b =
    record {
      channels = slice_set b.channels index (with_post l action);
      capacity = b.capacity;
      queue = b.queue;
      taken = b.taken;
    }

-- a host posts an action to the channel at an index
abbrev pub posted : ℕ → HostAction → Bench → Bench
posted index action b = channel_posts index (slice_get b.channels index) action b

-- one step
unfoldable pub stepped : Step → Bench → Bench
stepped (Offer index) b = offered index b
stepped Take b = taken_from b.queue b
stepped (Post index action) b = posted index action b

-- a list of steps
abbrev pub after_steps : List Step → Bench → Bench
after_steps [] b = b
after_steps (s ∷ ss) b = after_steps ss (stepped s b)
