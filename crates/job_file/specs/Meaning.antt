-- What a job means (own choice): its script's frames on the real bus, under the planned faults and placed actions.
use Rattle.std.specs.Prelude.{ℕ, nat_le, Bool, List, map, reverse}
use Rattle.mil_message.specs.World.{World, Point}
use Rattle.mil_bus.specs.declared.outcomes.Outcome.{Outcome}
use Rattle.mil_bus.specs.Exchange.{BusState, played}
use Rattle.mil_bus.specs.Addresses.{fresh_bus}
use Rattle.ch11_f1.specs.declared.Record.{Record}
use Rattle.mil_monitor.specs.Observed.{observed}
use Rattle.frame_tree.specs.Meaning.{meaning}
use Rattle.bc_machine.specs.declared.placed.Placed.{Placed}
use Rattle.frame_asm.specs.Shapes.{code_of_tree}
use Rattle.bc_machine.specs.Controller.{Setting, BusRun, world_in, drained, all_count}
use Rattle.bc_machine.specs.MadeMessages.{MadeMessage}
use Rattle.bc_machine.specs.Running.{beginning, most_inserted}
use Rattle.job_file.specs.ChannelJobs.{ChannelJob}

-- its bus before any message
abbrev pub bus_of : ChannelJob → BusState
bus_of job = fresh_bus job.start job.addresses

-- what its messages meet under a list of placed actions, where these numbers count
abbrev pub setting_at : (ℕ → Bool) → ChannelJob → List Placed → Setting
setting_at counts job placed = record {
  plan = job.plan;
  placed = placed;
  most = most_inserted (code_of_tree job.tree);
  counts = counts;
}

abbrev pub world_at : ChannelJob → List Placed → World BusRun Outcome
world_at job placed = world_in (setting_at all_count job placed)

-- a point behind the messages that still wait
abbrev pub drained_at : Setting → Point BusRun Outcome → Point BusRun Outcome
drained_at s p = record p { state = drained s p.gap p.state }

-- where the script leads in a setting, and then what still waits
abbrev pub end_in : Setting → ChannelJob → Point BusRun Outcome
end_in s job = drained_at s (meaning (world_in s) job.tree (beginning (bus_of job)))

-- where the script leads, under a list of placed actions
abbrev pub end_of : ChannelJob → List Placed → Point BusRun Outcome
end_of job placed = end_in (setting_at all_count job placed) job

-- the records of a bus, in the order of its messages
abbrev pub records_in : BusState → List Record
records_in b = map observed (reverse b.talks)

-- the records of all messages
abbrev pub records : ChannelJob → List Placed → List Record
records job placed = records_in (end_of job placed).state.bus

-- of the first k messages each leaves a trace, and none behind them
abbrev pub up_to : ℕ → ℕ → Bool
up_to k number = nat_le number k

-- what was played on the bus after the first k messages: its talks, and what its terminals have met
abbrev pub bus_after : ChannelJob → List Placed → ℕ → BusState
bus_after job placed k = played (end_in (setting_at (up_to k) job placed) job).state.bus

-- the first k messages, as the host of the controller looks back at them
abbrev pub made_after : ChannelJob → List Placed → ℕ → List MadeMessage
made_after job placed k = (end_in (setting_at (up_to k) job placed) job).state.made
