use Rattle.std.proofs.Common.{◌≡◌, ◌-◌, ◌≤◌}
use Rattle.frame_text.specs.Starts.{behind_tokens}
use Rattle.frame_text.proofs.tokens.last.Given as goal

abbrev pub invariant-loop-behind : goal.invariant-loop-behind
invariant-loop-behind l = record {
  behind : l.rest ≡ behind_tokens l.behind l.text;
  few : l.behind ≤ l.over;
}

abbrev pub decreases-loop-behind : goal.decreases-loop-behind
decreases-loop-behind l = l.over - l.behind
