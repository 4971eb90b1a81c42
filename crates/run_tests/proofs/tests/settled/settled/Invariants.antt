use Rattle.std.proofs.Common.{◌≡◌, ◌<◌, ℕ, true}
use Rattle.mil_trunk.specs.Tags.{has}
use Rattle.bench_mail.specs.Mail.{IsPosterOf, IsInboxOf, hosts_of}
use Rattle.run_tests.proofs.tests.settled.settled.Given as goal

-- they are the ends of the mailbox, and the poster holds all hosts
abbrev pub invariant-loop-word : goal.invariant-loop-word
invariant-loop-word g l = record {
  poster : IsPosterOf l.mailbox l.ends.0;
  inbox : IsInboxOf l.mailbox l.ends.1;
  holds : (host : ℕ) → host < 64 → has (hosts_of l.ends.0) host ≡ true;
}
