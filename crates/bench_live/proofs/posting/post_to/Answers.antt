use Rattle.std.proofs.Common.{arith, refl}
use Rattle.std.specs.Prelude.{◌==◌}
use Rattle.mil_trunk.proofs.Tagging.{length-filter_le}
use Rattle.bench_mail.specs.declared.mailbox.Post.{Post}
use Rattle.bench_mail.specs.Mail.{posted}
use Rattle.bench_live.proofs.posting.post_to.Goals as goal

pub returns-then-hand-ge-MOST_POSTS-clause-refused : goal.returns-then-hand-ge-MOST_POSTS-clause-refused
returns-then-hand-ge-MOST_POSTS-clause-refused g c =
    (refl, (refl, omega (arith, c.requires.hand.counted, c.requires.hand.few, c.if-hand-ge-MOST_POSTS.true)))

pub post-requires-clause-limit : goal.post-requires-clause-limit
post-requires-clause-limit g c =
    let fewer = length-filter_le (λ (p : Post). p.host == 0) (posted c.loop.hand.poster) in
    let hand = c.loop.invariant.hand in
    omega (arith, fewer, hand.counted, hand.few, hand.limit)
