use Rattle.std.proofs.Common.{◌≡◌, ◌≤◌, ◌<◌, ◌+◌, ℕ, true, [], length, vec_len, vec_capacity}
use Rattle.std.specs.Prelude.{Some, slice_get}
use Rattle.std.specs.Vec.Iter.{into_iter_items, into_iter_len}
use Rattle.mil_trunk.specs.Ends.{IsTicketOf, bounds_of, sent, tags_of}
use Rattle.mil_trunk.specs.Tags.{has}
use Rattle.bench_run.specs.Threads.{IsRoom, ArePromised}
use Rattle.bench_run.proofs.threads.start_all.Given as goal

abbrev pub invariant-loop-room : goal.invariant-loop-room
invariant-loop-room g l =
    let done = vec_len l.handles in let rest = l.room-iterator in record {
      ours : IsTicketOf l.context.trunk.now l.rest × (sent l.rest ≡ []) × (bounds_of l.rest ≡ bounds_of l.fn.rest);
      left : done + into_iter_len rest ≡ length l.before.jobs.now;
      tags : (t : ℕ) → t < 64 → done ≤ t → has (tags_of l.rest) t ≡ true;
      capacity : length l.before.jobs.now ≤ vec_capacity l.handles;
      rooms : (k : ℕ) (room : _) → slice_get (into_iter_items rest) k ≡ Some room → (job : _) → slice_get l.before.jobs.now (done + k) ≡ Some job → IsRoom job room;
      inboxes : (k : ℕ) (room : _) → slice_get (into_iter_items rest) k ≡ Some room → (slice_get l.before.inboxes.value.items (done + k) ≡ Some room.posts.inbox) × (room.posts.left ≡ l.before.most) × (room.is_live ≡ l.before.is_live);
      promised : ArePromised l.context.trunk.now (bounds_of l.fn.rest) l.before.is_live l.before.jobs.now l.before.most l.before.boxes.now l.before.inboxes.value.items l.handles.items;
    }
