use Rattle.std.proofs.Common.{ℕ, ◌<◌, slice_index_or}
use Rattle.bench_report.specs.Reports.{ChannelPart, IsPart}
use Rattle.bench_report.proofs.reports.keep_ranges.Given as goal

abbrev pub invariant-loop-channel : goal.invariant-loop-channel
invariant-loop-channel l = (k : ℕ) (d : ChannelPart) → k < l.channel-index → IsPart (slice_index_or l.channels k d)
