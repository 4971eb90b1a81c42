use Rattle.std.proofs.Common.{sym, arith, length}
use Rattle.std.proofs.lemmas.List.Sums.{position_or_len_is}
use Rattle.bench_live.specs.Posting.{is_channel}
use Rattle.bench_live.proofs.Gone.{same_test}
use Rattle.bench_live.proofs.posting.place_of.Goals as goal

pub returns-then-one-channel-clause-value : goal.returns-then-one-channel-clause-value
returns-then-one-channel-clause-value c = sym (position_or_len_is (is_channel c.args.channel) c.args.channels.now c.loop-i.i 0 (omega arith) c.loop-i.invariant (λ lt. rw c.if-one-channel.true (same_test c.args.channel)))

pub returns-clause-value : goal.returns-clause-value
returns-clause-value c = sym (position_or_len_is (is_channel c.args.channel) c.args.channels.now (length c.args.channels.now) 0 (omega arith) (λ k lt. c.loop-i.invariant k (omega arith)) (λ lt. absurd (omega arith)))
