use Rattle.std.proofs.Common.{◌≡◌, ◌++◌, ℕ, List, length}
use Rattle.frame_text.proofs.places.before_last_token.Given as goal

abbrev pub decreases-loop-last : goal.decreases-loop-last
decreases-loop-last l = length l.before

abbrev pub invariant-loop-last : goal.invariant-loop-last
invariant-loop-last l = (after : List ℕ) × (l.text ≡ l.before ++ after)
