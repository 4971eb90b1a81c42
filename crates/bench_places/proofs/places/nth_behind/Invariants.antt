use Rattle.std.proofs.Common.{◌≡◌, ◌+◌, ◌<◌, ◌^◌, length}
use Rattle.bench_places.specs.Places.{numbered, places_behind}
use Rattle.bench_places.proofs.places.nth_behind.Given as goal

abbrev pub invariant-messages : goal.invariant-messages
invariant-messages l = record {
  answer : numbered l.left (places_behind l.place l.sought l.rest) ≡ numbered l.n (places_behind l.before l.sought l.fn.messages);
  some : 0 < l.left;
  few : l.place + length l.rest < 2 ^ 64;
}

abbrev pub decreases-messages : goal.decreases-messages
decreases-messages l = length l.rest
