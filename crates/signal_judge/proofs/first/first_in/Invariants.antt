use Rattle.std.proofs.Common.{◌≡◌, ◌+◌, List, length}
use Rattle.bench_select.specs.Viewed.{Viewed}
use Rattle.signal_judge.specs.Tallies.{IsFinding}
use Rattle.bench_select.proofs.Passed.{IsPassing}
use Rattle.signal_judge.proofs.first.first_in.Given as goal

-- the first of the messages so far that miss the rule are found
abbrev pub invariant-messages : goal.invariant-messages
invariant-messages l = record {
  counted : l.number + length l.rest ≡ l.fn.packet.before + length l.fn.messages;
  passing : (history : List Viewed) → IsFinding l.rule l.origins l.most history l.fn.found.items l.fn.tally → l.fn.packet.before ≡ length history
      → IsPassing (λ hs. IsFinding l.rule l.origins l.most hs l.found.items l.tally) l.kind l.channel l.fn.messages l.rest history;
}

abbrev pub decreases-messages : goal.decreases-messages
decreases-messages l = length l.rest
