use Rattle.std.proofs.Common.{◌≡◌, ◌≤◌, ◌+◌, length, map, take, vec_len, vec_capacity}
use Rattle.job_file.specs.Rooms.{most_items}
use Rattle.std.specs.List.{AllByRecursion}
use Rattle.bench_run.proofs.threads.bounds.Given as goal

abbrev pub invariant-loop-job : goal.invariant-loop-job
invariant-loop-job l = record {
  len : vec_len l.bounds ≡ l.job-index;
  capacity : length l.jobs ≤ vec_capacity l.bounds;
  low : AllByRecursion (λ b. b ≤ 1000001 + l.posts) l.bounds.items;
  items : l.bounds.items ≡ map (most_items l.posts) (take l.job-index l.jobs);
}
