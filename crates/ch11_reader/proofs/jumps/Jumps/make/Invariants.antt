use Rattle.std.proofs.Common.{◌≡◌, ◌≤◌, ◌*◌, length}
use Rattle.ch11_reader.proofs.jumps.Jumps.make.Given as goal

abbrev pub invariant-places : goal.invariant-places
invariant-places l = record {
  same : l.self ≡ l.fn.self;
  within : 2 * l.left ≤ length l.fn.self;
}

abbrev pub decreases-places : goal.decreases-places
decreases-places l = l.left
