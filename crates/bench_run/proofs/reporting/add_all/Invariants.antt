use Rattle.std.proofs.Common.{◌≡◌, ◌++◌, List, take}
use Rattle.bc_machine.specs.declared.placed.Placed.{Placed}
use Rattle.bench_settings.specs.Placing.{placed_up_to, IsOrdered}
use Rattle.bench_run.proofs.reporting.add_all.Given as goal

abbrev pub invariant-loop-place : goal.invariant-loop-place
invariant-loop-place l = record {
  listed : (actions : List Placed) → l.initial.ordered.actions ≡ placed_up_to 1000000 actions → l.ordered.actions ≡ placed_up_to 1000000 (actions ++ take l.place l.more);
  fit : IsOrdered l.ordered.actions;
}
