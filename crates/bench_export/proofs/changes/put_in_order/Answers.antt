use Rattle.std.proofs.Common.{rules}
use Rattle.std.proofs.lemmas.List.Sorted.{answers_always, IsNonDecreasingBy-from_sort_by_key}
use Rattle.bench_export.specs.declared.changes.Change.{Change}
use Rattle.bench_export.proofs.changes.put_in_order.Goals as goal

pub returns : goal.returns
returns c = record {
  same = c.in_ok-sort_by_key.ensures.permutation;
  rising = IsNonDecreasingBy-from_sort_by_key (λ (x : Change). x.tick) _ c.in_ok-sort_by_key.ensures.sorted (λ a r q k. search rules);
  stable = c.in_ok-sort_by_key.ensures.stable (λ (x : Change). x.tick) (answers_always _ _ _ (λ f a r q k. search rules));
}
