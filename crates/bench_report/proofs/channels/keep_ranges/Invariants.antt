use Rattle.std.proofs.Common.{ℕ, ◌<◌, slice_index_or}
use Rattle.bc_machine.specs.declared.placed.Placed.{Placed}
use Rattle.bench_report.specs.Reports.{IsHostAction}
use Rattle.bench_report.proofs.channels.keep_ranges.Given as goal

abbrev invariant_at : Placed → Type 0
invariant_at p = IsHostAction p.action

abbrev pub invariant-loop-place : goal.invariant-loop-place
invariant-loop-place l = (k : ℕ) (d : Placed) → k < l.place → invariant_at (slice_index_or l.placed k d)
