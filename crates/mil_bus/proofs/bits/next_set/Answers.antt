use Rattle.std.proofs.Common.{◌≡◌, arith}
use Rattle.mil_bus.proofs.Masks.{clear_between, set_there}
use Rattle.mil_bus.proofs.bits.next_set.Goals as goal

pub returns-clause-none_between : goal.returns-clause-none_between
returns-clause-none_between c = λ k le lt small.
    let same : c.args.mask ≡ c.from.result = cc in
    rw same (clear_between c.from.result c.args.from (omega (arith, same, c.ranges.mask)) k le lt)

pub returns-clause-there : goal.returns-clause-there
returns-clause-there c = λ within.
    let same : c.args.mask ≡ c.from.result = cc in
    rw same (set_there c.from.result c.args.from (omega (arith, same, c.ranges.mask)) within)
