use Rattle.std.proofs.Common.{◌≡◌, ◌≤◌, ◌+◌, ◌++◌, ℕ, length, map, vec_len, vec_capacity}
use Rattle.std.specs.Prelude.{Some, slice_get}
use Rattle.std.specs.List.{AllByRecursion}
use Rattle.std.specs.Vec.Iter.{into_iter_items, into_iter_len}
use Rattle.bench_run.specs.declared.channel.Room.{Room}
use Rattle.bench_run.specs.Threads.{IsRoom}
use Rattle.bench_run.proofs.threads.rooms.Given as goal

abbrev pub invariant-loop-inbox : goal.invariant-loop-inbox
invariant-loop-inbox l =
    let done = vec_len l.rooms in let rest = l.inbox-iterator in record {
      left : done + into_iter_len rest ≡ length l.jobs;
      capacity : length l.jobs ≤ vec_capacity l.rooms;
      each : (k : ℕ) (room : Room) → slice_get l.rooms.items k ≡ Some room → (job : _) → slice_get l.jobs k ≡ Some job → IsRoom job room;
      inboxes : map (λ (room : Room). room.posts.inbox) l.rooms.items ++ into_iter_items rest ≡ l.fn.inboxes.items;
      most : AllByRecursion (λ (room : Room). room.posts.left ≡ l.most) l.rooms.items;
      live : AllByRecursion (λ (room : Room). room.is_live ≡ l.is_live) l.rooms.items;
    }
