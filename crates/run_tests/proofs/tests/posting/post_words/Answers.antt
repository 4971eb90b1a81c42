use Rattle.std.proofs.Common.{arith}
use Rattle.std.specs.Prelude.{◌==◌}
use Rattle.mil_trunk.proofs.Tagging.{length-filter_le}
use Rattle.bench_mail.specs.declared.mailbox.Post.{Post}
use Rattle.bench_mail.specs.Mail.{posted}
use Rattle.run_tests.proofs.tests.posting.post_words.Goals as goal

pub post-answer-requires-clause-limit : goal.post-answer-requires-clause-limit
post-answer-requires-clause-limit g c =
    let fewer = length-filter_le (λ (p : Post). p.host == c.args.host) (posted c.loop-word.poster) in
    omega (arith, fewer, c.loop-word.invariant.few, c.loop-word.invariant.limit, c.loop-word-test.true)
