use Rattle.std.proofs.Common.{◌≡◌, ◌+◌, ℕ, List, length}
use Rattle.std.specs.Prelude.{Option}
use Rattle.bench_select.specs.Viewed.{Viewed}
use Rattle.bench_select.proofs.Passed.{IsPassing}
use Rattle.bench_judge.specs.Tallies.{IsWriting}
use Rattle.bench_judge.proofs.lines.write_messages.Given as goal

-- those of the messages so far that miss the rule are written
abbrev pub invariant-messages : goal.invariant-messages
invariant-messages g l = record {
  counted : l.number + length l.rest ≡ l.fn.packet.before + length l.fn.messages;
  passing : (history : List Viewed) → (got : Option (List ℕ))
      → IsWriting (g.T.Tallied.is_tally l.rule l.origins) (g.T.Tallied.misses_next l.rule l.origins) (g.T.Tallied.line_of l.rule) got history (g.W.Write.contents l.fn.out) l.fn.tally → l.fn.packet.before ≡ length history
      → IsPassing (λ hs. IsWriting (g.T.Tallied.is_tally l.rule l.origins) (g.T.Tallied.misses_next l.rule l.origins) (g.T.Tallied.line_of l.rule) got hs (g.W.Write.contents l.out) l.tally) l.kind l.channel l.fn.messages l.rest history;
}

abbrev pub decreases-messages : goal.decreases-messages
decreases-messages g l = length l.rest
