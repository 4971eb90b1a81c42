use Rattle.std.proofs.Common.{◌≡◌, ◌+◌, ℕ, length}
use Rattle.std.specs.Prelude.{Some, slice_get}
use Rattle.std.specs.Vec.Iter.{into_iter_items, into_iter_len}
use Rattle.bench_mail.specs.Mail.{MayPost}
use Rattle.run_tests.proofs.tests.posting.post_to_all.Given as goal

-- the posters that are left are those of the mailboxes from the place on
abbrev pub invariant-loop-poster : goal.invariant-loop-poster
invariant-loop-poster g l = record {
  left : l.place + into_iter_len l.poster-iterator ≡ length l.boxes;
  each : (k : ℕ) (p : _) → slice_get (into_iter_items l.poster-iterator) k ≡ Some p → (box : _) → slice_get l.boxes (l.place + k) ≡ Some box → MayPost l.host box p;
}
