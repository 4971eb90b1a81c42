use Rattle.bench_live.specs.Posting.{IsOpened}
use Rattle.bench_live.proofs.desk.open_desk.Given as goal

abbrev pub invariant-loop-job : goal.invariant-loop-job
invariant-loop-job l = IsOpened l.desk l.hands.items l.inboxes.items
