use Rattle.std.proofs.Common.{◌≡◌, ℕ, ◌-◌, ◌≤◌, ◌<◌, length, get_or}
use Rattle.std.specs.Prelude.{true}
use Rattle.frame_text.specs.Tokens.{in_word}
use Rattle.frame_text.proofs.tokens.token.Given as goal

abbrev pub invariant-loop-end : goal.invariant-loop-end
invariant-loop-end l = record {
  some : 1 ≤ l.end;
  inside : l.end ≤ length l.text;
  word : (k : ℕ) → k < l.end → in_word (get_or l.text k 0) ≡ true;
}

abbrev pub decreases-loop-end : goal.decreases-loop-end
decreases-loop-end l = length l.text - l.end
