use Rattle.std.proofs.Common.{◌≡◌, ◌+◌, ◌<◌, ◌^◌, List, length}
use Rattle.bench_select.specs.Viewed.{Viewed}
use Rattle.bench_judge.specs.Tallies.{AreTallies}
use Rattle.bench_select.proofs.Passed.{IsPassing}
use Rattle.bench_judge.proofs.judging.note_messages.Given as goal

-- the messages so far are counted
abbrev pub invariant-messages : goal.invariant-messages
invariant-messages g l = record {
  many : length l.tallies ≡ length l.rules;
  passing : (history : List Viewed) → AreTallies g.T.Tallied.is_tally l.rules l.origins history l.fn.tallies → length history + length l.fn.messages < 2 ^ 64
      → IsPassing (λ hs. AreTallies g.T.Tallied.is_tally l.rules l.origins hs l.tallies) l.kind l.channel l.fn.messages l.rest history;
}

abbrev pub decreases-messages : goal.decreases-messages
decreases-messages g l = length l.rest
