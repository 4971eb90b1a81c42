use Rattle.std.proofs.Common.{◌≡◌, ◌≤◌, false, length}
use Rattle.frame_text.specs.Starts.{from_token}
use Rattle.frame_text.specs.Tokens.{lex, tokens}
use Rattle.frame_text.proofs.tokens.skipped.Given as goal

abbrev pub invariant-loop-first : goal.invariant-loop-first
invariant-loop-first l = record {
  tokens_are : lex l.comment l.rest ≡ tokens l.text;
  shorter : length l.rest ≤ length l.text;
  from : from_token l.comment l.rest ≡ from_token false l.text;
}

abbrev pub decreases-loop-first : goal.decreases-loop-first
decreases-loop-first l = length l.rest
