use Rattle.std.proofs.Common.{◌≡◌, ℕ, ◌<◌, get_or}
use Rattle.std.specs.Prelude.{false}
use Rattle.signal_dictionary.specs.Namings.{is_equals}
use Rattle.signal_dictionary.proofs.namings.len_before_equals.Given as goal

abbrev pub invariant-loop-i : goal.invariant-loop-i
invariant-loop-i l = (k : ℕ) → k < l.i → is_equals (get_or l.word k 0) ≡ false
