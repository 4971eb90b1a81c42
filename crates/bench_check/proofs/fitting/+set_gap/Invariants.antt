use Rattle.std.proofs.Common.{◌≡◌, max}
use Rattle.frame_tree.proofs.Trees.{left_from}
use Rattle.bench_check.specs.Fitting.{set_gap}
use Rattle.bench_check.proofs.fitting.+set_gap.Given as goal

abbrev pub invariant-loop-one : goal.invariant-loop-one
invariant-loop-one g l = max l.longest (set_gap (left_from l.one-index l.one-items)) ≡ set_gap (left_from 0 l.one-items)
