-- A job's fields as plain data.
use Rattle.job_file.specs.Jobs.{JobState, IsJob}
use Rattle.job_file.specs.declared.jobs.Job.TheInside.{Inside}

abbrev pub state_in : Inside → JobState
state_in j = record {
  channel = j.channel;
  start = j.start;
  addresses = j.addresses.items;
  actions = j.actions;
  plan = j.plan;
  script = j.script;
  own = j.own;
  timed = j.timed;
}

abbrev pub IsKeptJob : Inside → Type 0
IsKeptJob j = IsJob (state_in j) j.program
