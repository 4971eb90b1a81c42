use Rattle.std.proofs.Common.{◌≡◌, ◌≤◌, length, vec_len, vec_capacity}
use Rattle.std.specs.Prelude.{All}
use Rattle.mil_tests.proofs.tests.trunks.threads.numbered.Given as goal

abbrev pub invariant-loop-number : goal.invariant-loop-number
invariant-loop-number l = record {
  tag : All (λ item. item.tag ≡ l.tag) l.items.items;
  len : (length l.items.items ≡ l.number) × (vec_len l.items ≡ l.number);
  room : 1000 ≤ vec_capacity l.items;
}
