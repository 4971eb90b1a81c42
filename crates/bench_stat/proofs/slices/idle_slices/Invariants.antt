use Rattle.std.proofs.Common.{◌≡◌, [], length}
use Rattle.std.specs.List.{All}
use Rattle.bench_stat.specs.Slices.{IsBusy}
use Rattle.bench_stat.proofs.slices.idle_slices.Given as goal

-- the bus was not busy in those so far
abbrev pub invariant-slices : goal.invariant-slices
invariant-slices l = record {
  many : length l.slices.items ≡ l.made;
  each : All (IsBusy []) l.slices.items;
}
