use Rattle.std.proofs.Common.{ltb, rules}
use Rattle.std.proofs.lemmas.Bool.{ltb-true, ltb-false}
use Rattle.std.proofs.lemmas.List.Sorted.{IsPartitionPoint-from_clause, IsPartitionedBy-ltb}
use Rattle.bc_machine.specs.declared.action_rows.Row.{Row}
use Rattle.bc_machine.proofs.lookup.begin_of.Goals as goal

pub returns : goal.returns
returns c = λ rising.
    let xs = c.args.rows.now in
    let n = c.args.least in
    let found = IsPartitionPoint-from_clause (λ (r : Row). ltb r.number n) xs c.partition_point.result c.partition_point.ensures.partitioned (IsPartitionedBy-ltb (λ (r : Row). r.number) xs n rising) (λ a r q k. search rules) in
    record {
      within = c.partition_point.ensures.bound;
      below = λ k d low high. ltb-true _ _ (found.0 k d low high);
      others = λ k d low high. ltb-false _ _ (found.1 k d low high);
    }
