use Rattle.std.proofs.Common.{◌≡◌, ◌<◌, ℕ, length}
use Rattle.std.specs.Prelude.{All, slice_index_or}
use Rattle.mil_tests.proofs.tests.trunks.threads.lists_of.Given as goal

abbrev pub invariant-loop-tag : goal.invariant-loop-tag
invariant-loop-tag l = record {
  len : length l.lists.items ≡ l.tag;
  lists : (k : ℕ) (d : _) → k < l.tag → All (λ item. item.tag ≡ k) (slice_index_or l.lists.items k d).items × (length (slice_index_or l.lists.items k d).items ≡ 1000);
}
