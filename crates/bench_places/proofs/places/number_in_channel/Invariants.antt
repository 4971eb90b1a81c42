use Rattle.std.proofs.Common.{◌≡◌, ◌≤◌, drop, take}
use Rattle.bench_select.specs.Viewed.{viewed_in}
use Rattle.bench_places.specs.Places.{count_in_channel}
use Rattle.bench_places.proofs.places.number_in_channel.Given as goal

abbrev pub invariant-loop-passed : goal.invariant-loop-passed
invariant-loop-passed l = record {
  rest : l.rest ≡ drop l._passed (viewed_in l.index);
  counted : l.count ≡ count_in_channel l.channel (take l._passed (viewed_in l.index));
  few : l.count ≤ l._passed;
}
