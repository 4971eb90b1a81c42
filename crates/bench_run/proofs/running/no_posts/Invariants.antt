use Rattle.std.proofs.Common.{◌≡◌, ◌≤◌, length, vec_len, vec_capacity}
use Rattle.bench_run.specs.Live.{AreInboxesOf}
use Rattle.bench_run.proofs.running.no_posts.Given as goal

abbrev pub invariant-loop-job : goal.invariant-loop-job
invariant-loop-job l = record {
  len : vec_len l.boxes ≡ l.job-index;
  len_too : vec_len l.inboxes ≡ l.job-index;
  room : length l.jobs ≤ vec_capacity l.boxes;
  room_too : length l.jobs ≤ vec_capacity l.inboxes;
  ends : AreInboxesOf l.boxes.items l.inboxes.items;
}
