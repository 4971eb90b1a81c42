use Rattle.std.proofs.Common.{◌≡◌, take}
use Rattle.bench_run_command.specs.Counted.{message_count}
use Rattle.bench_run_command.proofs.counts.Counts.of_report.Given as goal

-- the messages of the channels so far
abbrev pub invariant-loop-channel : goal.invariant-loop-channel
invariant-loop-channel l = l.messages ≡ message_count (take l.channel-index l.channel-items)
