use Rattle.std.proofs.Common.{arith, ◌≡◌, ◌^◌}
use Rattle.std.specs.Prelude.{◌==◌}
use Rattle.mil_trunk.specs.Tags.{bound_of}
use Rattle.mil_trunk.proofs.Tagging.{length-filter_le}
use Rattle.bench_mail.specs.declared.mailbox.Post.{Post}
use Rattle.bench_mail.specs.Mail.{limits_of, posted}
use Rattle.run_tests.proofs.tests.settled.post_three.Goals as goal

pub post-answer-requires-clause-limit : goal.post-answer-requires-clause-limit
post-answer-requires-clause-limit g c =
    let fewer = length-filter_le (λ (p : Post). p.host == 0) (posted c.loop-word.poster) in
    let limit : bound_of (limits_of c.loop-word.poster) 0 ≡ 2 ^ 55 = c.loop-word.invariant.limits 0 (omega arith) in
    omega (arith, fewer, c.loop-word.invariant.few, limit, c.loop-word-test.true)
