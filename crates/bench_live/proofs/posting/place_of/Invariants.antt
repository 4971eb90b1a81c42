use Rattle.std.proofs.Common.{◌≡◌, ℕ, ◌<◌, get_or}
use Rattle.std.specs.Prelude.{false}
use Rattle.bench_live.specs.Posting.{is_channel}
use Rattle.bench_live.proofs.posting.place_of.Given as goal

abbrev pub invariant-loop-i : goal.invariant-loop-i
invariant-loop-i l = (k : ℕ) → k < l.i → is_channel l.channel (get_or l.channels k 0) ≡ false
