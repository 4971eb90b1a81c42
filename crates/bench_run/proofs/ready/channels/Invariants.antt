use Rattle.std.proofs.Common.{◌≡◌, ◌≤◌, length, take, vec_len, vec_capacity}
use Rattle.bench_settings.specs.Lawful.{channels_of}
use Rattle.bench_run.proofs.ready.channels.Given as goal

abbrev pub invariant-loop-job : goal.invariant-loop-job
invariant-loop-job l = record {
  len : vec_len l.channels ≡ l.job-index;
  capacity : length l.jobs ≤ vec_capacity l.channels;
  items : l.channels.items ≡ channels_of (take l.job-index l.jobs);
}
