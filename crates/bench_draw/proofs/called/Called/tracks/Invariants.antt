use Rattle.std.proofs.Common.{◌≡◌}
use Rattle.bench_draw.specs.Lanes.{lanes_below}
use Rattle.bench_draw.proofs.called.Called.tracks.Given as goal

-- the lanes of the addresses so far
abbrev pub invariant-addresses : goal.invariant-addresses
invariant-addresses l = l.tracks.items ≡ lanes_below l.fn.self l.address
