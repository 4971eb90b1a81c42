use Rattle.std.proofs.Common.{◌≡◌, ◌++◌, ap, ◌∙◌, arith}
use Rattle.bench_check.specs.Mistakes.{strangers_below}
use Rattle.bench_check.proofs.mistakes.add_strangers.Goals as goal

pub returns : goal.returns
returns c =
    let all : c.loop-address.address ≡ 31 = omega arith in
    c.loop-address.invariant ∙ ap (λ n. c.args.found.now.items ++ strangers_below c.args.addresses.now c.args.calls.now n) all
