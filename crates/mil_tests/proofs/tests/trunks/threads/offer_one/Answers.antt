use Rattle.std.proofs.Common.{arith, ap, length, ◌<◌}
use Rattle.std.specs.Prelude.{◌==◌}
use Rattle.mil_trunk.specs.Ends.{sent, bounds_of}
use Rattle.mil_trunk.specs.Tags.{bound_of}
use Rattle.mil_trunk.proofs.Tagging.{length-filter_le}
use Rattle.mil_tests.proofs.tests.trunks.threads.offer_one.Goals as goal

pub offer-requires-clause-bound : goal.offer-requires-clause-bound
offer-requires-clause-bound g c =
    let fewer = length-filter_le (λ item. item.tag == c.args.item.tag) (sent c.loop.ticket) in
    let same = ap length c.loop.invariant.sent in
    let below : length (sent c.args.ticket.now) < bound_of (bounds_of c.loop.ticket) c.args.item.tag = rw c.loop.invariant.bounds c.requires.bound in
    omega (arith, fewer, same, below)
