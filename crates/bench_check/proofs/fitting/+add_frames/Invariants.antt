use Rattle.std.proofs.Common.{◌≡◌, ◌++◌}
use Rattle.frame_tree.specs.Scopes.{scope_of}
use Rattle.frame_tree.proofs.Trees.{left_from}
use Rattle.bench_check.specs.Fitting.{frames_in}
use Rattle.bench_check.proofs.fitting.+add_frames.Given as goal

abbrev pub invariant-loop-one : goal.invariant-loop-one
invariant-loop-one g l =
    l.found.items ++ frames_in l.initial.gap (scope_of l.initial.scope) (left_from l.one-index l.one-items)
    ≡ l.initial.found.items ++ frames_in l.initial.gap (scope_of l.initial.scope) (left_from 0 l.one-items)
