-- A job as plain data, and what every job keeps.
use Rattle.std.specs.Prelude.{◌≡◌, ℕ, ◌+◌, ◌≤◌, true, if◌then◌else◌, List, length}
use Rattle.std.specs.List.{list_all}
use Rattle.mil_line.specs.Plans.{Planned}
use Rattle.mil_bus.specs.Addresses.{is_fit}
use Rattle.frame_tree.specs.Tree.{Tree}
use Rattle.frame_code.specs.Table.{Code}
use Rattle.frame_load.specs.Budget.{worst_messages}
use Rattle.bc_machine.specs.Agendas.{inserts_among}
use Rattle.bc_machine.specs.declared.placed.Placed.{Placed}
use Rattle.job_file.specs.JobRanges.{may_act, IsFitTimed}
use Rattle.job_file.specs.Scripts.{tree_spelled, IsProgramOf}
use Rattle.job_file.specs.ChannelJobs.{ChannelJob}
use Rattle.job_file.specs.TimedLines.{Timed, timed_inserts}
use Rattle.job_file.specs.Timed.{says_nothing}
use Rattle.job_file.specs.declared.scripts.Script.{Script}

pub record JobState : Type 0 where
  pub channel : ℕ
  pub start : ℕ
  pub addresses : List ℕ
  -- what hosts do, each action at its number
  pub actions : List Placed
  pub plan : List Planned
  pub script : Script
  -- the actions that its lines place by number, where a line is by time or by command; else none
  pub own : List Placed
  -- what its lines say by time and by command; nothing where none does, and then its faults stand in the plan alone
  pub timed : Timed

-- how many messages these actions have inserted
abbrev pub own_inserts : List Placed → ℕ
own_inserts actions = length (inserts_among actions)

-- what the script spells
abbrev pub tree_in : JobState → Tree
tree_in job = tree_spelled job.script.text

-- the job with the tree of its script
abbrev pub job_in : JobState → ChannelJob
job_in job = record {
  channel = job.channel;
  start = job.start;
  addresses = job.addresses;
  actions = job.actions;
  plan = job.plan;
  tree = tree_in job;
}

-- the actions that its lines place by number
abbrev pub said_actions : JobState → List Placed
said_actions job = if says_nothing job.timed then job.actions else job.own

-- how many messages its lines have inserted, by number, by time and by command
abbrev pub said_inserts : JobState → ℕ
said_inserts job = own_inserts (said_actions job) + timed_inserts job.timed.whens

-- the job as its lines say it by number alone
abbrev pub said_in : JobState → ChannelJob
said_in job = record (job_in job) { actions = said_actions job }

-- its numbers are in their ranges, its script has a sound tree, and the program is that tree's
pub record IsJob (job : JobState) (program : Code) : Type 0 where
  pub channel_low : 1 ≤ job.channel
  pub channel_high : job.channel ≤ 65535
  pub start_high : job.start ≤ 140737488355328
  pub addresses : is_fit job.addresses ≡ true
  pub actions : list_all (may_act job.addresses) job.actions ≡ true
  pub program_is : IsProgramOf job.script.text program
  pub own : list_all (may_act job.addresses) job.own ≡ true
  pub timed : IsFitTimed job.addresses job.timed
  -- what it has inserted and what its script sends at worst are at most 1,000,000 messages, also where all that it says
  -- by time and by command comes to be due
  pub few : own_inserts job.actions + worst_messages program.operations ≤ 1000000
  pub few_said : said_inserts job + worst_messages program.operations ≤ 1000000
