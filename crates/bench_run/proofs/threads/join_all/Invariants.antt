use Rattle.std.proofs.Common.{◌≡◌, ◌≤◌, ◌<◌, ◌+◌, ℕ, true, [], vec_len, vec_capacity}
use Rattle.std.specs.Prelude.{Some, slice_get}
use Rattle.std.specs.Vec.Iter.{into_iter_items, into_iter_len}
use Rattle.mil_trunk.specs.Ends.{IsTicketOf, capacity_of, bounds_of, sent, tags_of}
use Rattle.mil_trunk.specs.Tags.{has}
use Rattle.mil_trunk.specs.Views.{with_tag}
use Rattle.bench_run.specs.Entries.{index_of}
use Rattle.bench_run.specs.Threads.{IsPromised, AreEnded}
use Rattle.bench_run.proofs.threads.join_all.Given as goal

abbrev pub invariant-loop-handle : goal.invariant-loop-handle
invariant-loop-handle g l =
    let done = vec_len l.joined in let rest = l.handle-iterator in record {
      ours : IsTicketOf l.trunk l.rest × (bounds_of l.rest ≡ bounds_of l.fn.rest);
      left : done + into_iter_len rest ≡ vec_len l.fn.handles;
      low : (t : ℕ) → t < done → has (tags_of l.rest) t ≡ true;
      high : (t : ℕ) → has (tags_of l.fn.rest) t ≡ true → has (tags_of l.rest) t ≡ true;
      capacity : vec_len l.fn.handles ≤ vec_capacity l.joined;
      promised : (k : ℕ) (h : _) → slice_get (into_iter_items rest) k ≡ Some h → IsPromised l.trunk (bounds_of l.fn.rest) l.before.is_live l.before.jobs.now l.before.most l.before.boxes.now l.before.inboxes.value.items (done + k) h.promise;
      ended : AreEnded (capacity_of l.trunk) (sent l.rest) l.before.is_live l.before.jobs.now l.before.most l.before.boxes.now l.before.inboxes.value.items l.joined.items;
      later : (t : ℕ) → done ≤ t → with_tag index_of t (sent l.rest) ≡ [];
    }
