use Rattle.std.proofs.Common.{arith}
use Rattle.bench_complete.proofs.Looking.{found_among}
use Rattle.bench_complete.proofs.original.held_at.Goals as goal

pub returns : goal.returns
returns c =
    let part = c.in_ok-behind.ensures.lookup.0 in
    found_among _ (λ b. b.now) c.args.held.now c.in_ok-behind.behind.now c.args.from c.in_ok-start.start c.args.offset c.args.size c.get-2.result (omega (arith, c.in_ok-start.ensures)) part.0 part.2
    c.get-2.ensures.lookup.0
