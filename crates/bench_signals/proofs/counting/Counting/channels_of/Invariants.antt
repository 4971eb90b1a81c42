use Rattle.std.proofs.Common.{◌≡◌}
use Rattle.bench_signals.specs.Counting.{channels_below}
use Rattle.bench_signals.proofs.counting.Counting.channels_of.Given as goal

-- the channels so far
abbrev pub invariant-channels : goal.invariant-channels
invariant-channels l = l.channels.items ≡ channels_below l.self l.channel
