use Rattle.std.proofs.Common.{List, leb, sym, subst, rules}
use Rattle.std.proofs.lemmas.List.Sorted.{IsPartitionPoint-from_clause, IsPartitionedBy-leb}
use Rattle.bc_machine.specs.declared.action_rows.Row.{Row}
use Rattle.bc_machine.specs.Rows.{all_placed}
use Rattle.bc_machine.specs.Rising.{IsRising, IsParted}
use Rattle.bc_machine.specs.Schedules.{ScheduleState, AreRising}
use Rattle.bc_machine.proofs.Listed.{rising_rows, parted_placed}
use Rattle.bc_machine.proofs.schedule.Schedule.behind.Goals as goal

pub returns-clause-parted : goal.returns-clause-parted
returns-clause-parted c =
    let beside = c.self.inside.beside.lists in
    let n = c.args.number in
    let at = c.partition_point.result in
    let rows = c.deref.result.now in
    let rising = subst AreRising (sym c.deref.ensures.value)
    (rising_rows beside c.self.inside.rows.items (subst (λ (s : ScheduleState). IsRising s.actions) (sym c.self.view_is) c.requires)) in
    let point = IsPartitionPoint-from_clause (λ (r : Row). leb r.number n) rows at c.partition_point.ensures.partitioned (IsPartitionedBy-leb (λ (r : Row). r.number) rows n rising) (λ a r q k. search rules) in
    subst (λ (s : ScheduleState). IsParted n at s.actions) c.self.view_is
    (subst (λ (rs : List Row). IsParted n at (all_placed beside rs)) c.deref.ensures.value (parted_placed beside rows n at c.partition_point.ensures.bound point.0 point.1))
