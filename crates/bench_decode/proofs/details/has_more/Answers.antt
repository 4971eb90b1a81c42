use Rattle.std.proofs.Common.{◌+◌, ◌-◌, arith}
use Rattle.bench_decode.proofs.Slices.{same-lt}
use Rattle.bench_decode.proofs.details.has_more.Goals as goal

pub returns : goal.returns
returns c = rw c.saturating_sub.ensures (same-lt 40 (c.args.to - c.args.from) (c.args.from + 40) c.args.to (λ h. omega (arith, h)) (λ h. omega (arith, h)))
