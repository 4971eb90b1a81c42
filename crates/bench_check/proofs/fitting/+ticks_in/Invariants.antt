use Rattle.std.proofs.Common.{◌≡◌, ◌≤◌, ◌+◌}
use Rattle.frame_tree.specs.Scopes.{scope_of}
use Rattle.frame_tree.proofs.Trees.{left_from}
use Rattle.bench_check.specs.Fitting.{most, ticks_in}
use Rattle.bench_check.proofs.fitting.+ticks_in.Given as goal

abbrev pub invariant-loop-one : goal.invariant-loop-one
invariant-loop-one g l = record {
  capped : l.total ≤ 1000000000;
  left : most (l.total + ticks_in l.initial.gap (scope_of l.initial.scope) (left_from l.one-index l.one-items)) ≡ most (ticks_in l.initial.gap (scope_of l.initial.scope) (left_from 0 l.one-items));
}
