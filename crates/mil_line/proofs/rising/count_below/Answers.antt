use Rattle.std.proofs.Common.{ℕ, ltb, rules}
use Rattle.std.proofs.lemmas.Bool.{ltb-true, ltb-false}
use Rattle.std.proofs.lemmas.List.Sorted.{IsPartitionPoint-from_clause, IsPartitionedBy-ltb}
use Rattle.mil_line.proofs.rising.count_below.Goals as goal

pub returns : goal.returns
returns c =
    let xs = c.args.numbers.now in
    let n = c.args.number in
    let found = IsPartitionPoint-from_clause (λ (x : ℕ). ltb x n) xs c.partition_point.result c.partition_point.ensures.partitioned (IsPartitionedBy-ltb (λ (x : ℕ). x) xs n c.requires) (λ a r q k. search rules) in
    record {
      within = c.partition_point.ensures.bound;
      below = λ k d low high. ltb-true _ _ (found.0 k d low high);
      others = λ k d low high. ltb-false _ _ (found.1 k d low high);
    }
