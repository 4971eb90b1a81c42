use Rattle.std.proofs.Common.{rules}
use Rattle.std.proofs.lemmas.List.Sorted.{answers_always, IsNonDecreasingBy-from_sort_by_key}
use Rattle.bench_decode.specs.declared.chosen.Chosen.{Chosen}
use Rattle.bench_decode.specs.ByTime.{stamp_of}
use Rattle.bench_decode.proofs.chosen.messages_by_time.Goals as goal

pub returns : goal.returns
returns c = record {
  found = c.in_ok-found.found.items;
  these = c.in_ok-found.ensures;
  all = c.in_ok-sort_by_key.ensures.permutation;
  rising = IsNonDecreasingBy-from_sort_by_key (λ (one : Chosen). stamp_of one) _ c.in_ok-sort_by_key.ensures.sorted (λ a r q k. search rules);
  stable = c.in_ok-sort_by_key.ensures.stable (λ (one : Chosen). stamp_of one) (answers_always _ _ _ (λ f a r q k. search rules));
}
