use Rattle.std.proofs.Common.{◌≡◌, take}
use Rattle.bench_run_command.specs.Refused.{refused_count}
use Rattle.bench_run_command.proofs.refused.refused_count.Given as goal

-- the refused messages of the channels so far
abbrev pub invariant-loop-channel : goal.invariant-loop-channel
invariant-loop-channel l = l.refused ≡ refused_count (take l.channel-index l.channel-items)
