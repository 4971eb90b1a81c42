use Rattle.std.proofs.Common.{◌≡◌, ◌≤◌, ◌^◌, true, length}
use Rattle.mil_trunk.specs.Tags.{has, bound_of}
use Rattle.bench_mail.specs.Mail.{IsPosterOf, hosts_of, limits_of, posted}
use Rattle.run_tests.proofs.tests.posting.post_words.Given as goal

-- the host posted as many words as it says
abbrev pub invariant-loop-word : goal.invariant-loop-word
invariant-loop-word g l = record {
  poster : IsPosterOf l.mailbox l.poster;
  holds : has (hosts_of l.poster) l.host ≡ true;
  limit : bound_of (limits_of l.poster) l.host ≡ 2 ^ 55;
  few : length (posted l.poster) ≤ l.word;
}
