use Rattle.std.proofs.Common.{◌≡◌, ℕ, ◌<◌, get_or}
use Rattle.std.specs.Prelude.{false}
use Rattle.bench_names.specs.Attributes.{is_byte}
use Rattle.bench_names.proofs.attributes.place_of.Given as goal

abbrev pub invariant-loop-i : goal.invariant-loop-i
invariant-loop-i l = (k : ℕ) → k < l.i → is_byte l.wanted (get_or l.text k 0) ≡ false
