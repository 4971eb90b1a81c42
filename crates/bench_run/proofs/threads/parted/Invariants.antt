use Rattle.std.proofs.Common.{◌≡◌, ◌≤◌, ◌+◌, ◌++◌, map, vec_len, vec_capacity}
use Rattle.std.specs.Vec.Iter.{into_iter_items, into_iter_len}
use Rattle.bench_run.specs.declared.threads.Joined.{Joined}
use Rattle.bench_run.proofs.threads.parted.Given as goal

abbrev pub invariant-loop-one : goal.invariant-loop-one
invariant-loop-one l =
    let rest = l.one-iterator in record {
      left : vec_len l.parts + into_iter_len rest ≡ vec_len l.fn.joined;
      left_too : vec_len l.inboxes + into_iter_len rest ≡ vec_len l.fn.joined;
      room : vec_len l.fn.joined ≤ vec_capacity l.parts;
      room_too : vec_len l.fn.joined ≤ vec_capacity l.inboxes;
      parts : l.parts.items ++ map (λ (j : Joined). j.part) (into_iter_items rest) ≡ map (λ (j : Joined). j.part) l.fn.joined.items;
      inboxes : l.inboxes.items ++ map (λ (j : Joined). j.inbox) (into_iter_items rest) ≡ map (λ (j : Joined). j.inbox) l.fn.joined.items;
    }
