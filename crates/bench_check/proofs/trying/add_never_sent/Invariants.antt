use Rattle.std.proofs.Common.{◌≡◌, ◌++◌}
use Rattle.bench_check.specs.Unmet.{planned_behind}
use Rattle.bench_check.proofs.trying.add_never_sent.Given as goal

-- those of the messages so far are kept
abbrev pub invariant-loop-count : goal.invariant-loop-count
invariant-loop-count l = l.unmet.items ≡ l.fn.unmet.items ++ planned_behind l.plan l.made l.count
