-- One channel of a world, and what it offers next.
use Rattle.std.specs.Prelude.{◌≡◌, ℕ, ◌+◌, ◌-◌, ◌≤◌, ◌==◌, Bool, true, not, ◌||◌, if◌then◌else◌, length, Option}
use Rattle.std.specs.Prelude.{Some, None}
use Rattle.std.specs.List.{list_any}
use Rattle.ch11_f1.specs.declared.Record.{Record}
use Rattle.frame_tree.specs.Bounds.{IsSound}
use Rattle.bench_report.specs.Reports.{ChannelPart, Rises}
use Rattle.job_file.specs.Jobs.{tree_in, job_in}
use Rattle.job_file.specs.Machines.{IsOf}
use Rattle.ch11_recording.specs.declared.item.Item.{Item}
use Rattle.ch11_recording.specs.declared.item.Item.TheVariants as item
use Rattle.bench_core.specs.Bench.{ChannelState, with_message, with_end, message_of}
pub use Rattle.bench_core.specs.Bench.{next_in}
use Rattle.bc_machine.specs.declared.placed.HostAction.{HostAction}
use Rattle.bc_machine.specs.declared.placed.HostAction.TheVariants.{Terminal, Controller}
use Rattle.bench_core.specs.Settled.{HasRecorded}
use Rattle.bench_settings.specs.Placing.{placed_up_to, IsOrdered}
use Rattle.bench_core.specs.declared.stepped_channel.SteppedChannel.TheInside.{Inside}

-- a channel after what comes next of it, where the queue has room or not
abbrev pub after_next : ChannelState → Option Record → Bool → ChannelState
after_next l (Some r) room = with_message l room
after_next l None room = if l.ended || not room then l else with_end l

-- what it puts into the queue
abbrev pub queued_next : ChannelState → Option Record → Bool → Option Item
queued_next l (Some r) room = if room then Some (message_of l r) else None
queued_next l None room = if l.ended || not room then None else Some (item.End l.channel)

-- its messages so far are those of a bus monitor, and at most 1,000,000
pub record IsMade (l : ChannelState) : Type 0 where
  pub recorded : HasRecorded l
  pub few : l.made ≤ 1000000

-- how many actions were posted for it
abbrev pub posts_of : ChannelState → ℕ
posts_of l = length l.placed - length l.job.actions

-- whether there is a terminal at an address of its bus
abbrev pub has_terminal : ChannelState → ℕ → Bool
has_terminal l address = list_any (λ a. a == address) l.job.addresses

-- whether an action may be posted: one for a terminal where its bus has it, one for the controller always
abbrev pub may_post : ChannelState → HostAction → Bool
may_post l (Terminal address action) = has_terminal l address
may_post l (Controller asked) = true

-- what a report says of it
abbrev pub report_part : ChannelState → ChannelPart
report_part l = record {
  channel = l.channel;
  made = l.made;
  refused = l.refused;
  placed = placed_up_to l.made l.placed;
}

-- ---- what its fields keep

abbrev pub channel_state_in : Inside → ChannelState
channel_state_in l = record {
  channel = l.channel;
  job = l.job.value;
  placed = l.machine.placed;
  made = l.machine.point.number;
  refused = l.refused.items;
  ended = l.ended;
}

pub record IsKeptChannel (l : Inside) : Type 0 where
  pub controller : IsOf (job_in l.job.value) l.machine.placed l.machine
  pub sound : IsSound (tree_in l.job.value)
  pub channel : 1 ≤ l.channel
  pub addresses : l.addresses.items ≡ l.job.value.addresses
  pub refused : Rises 0 l.machine.point.number l.refused.items
  pub placed : l.placed.actions ≡ placed_up_to 1000000 l.machine.placed
  pub ordered : IsOrdered l.placed.actions
  pub posts : length l.machine.placed ≡ length l.job.value.actions + l.posts
  pub recorded : HasRecorded (channel_state_in l)
