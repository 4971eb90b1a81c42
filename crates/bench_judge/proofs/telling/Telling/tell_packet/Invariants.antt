use Rattle.std.proofs.Common.{◌≡◌, ◌+◌, ℕ, List, length}
use Rattle.bench_select.specs.Viewed.{Viewed}
use Rattle.bench_judge.specs.Tallies.{IsTelling}
use Rattle.bench_select.proofs.Passed.{IsPassing}
use Rattle.bench_judge.proofs.telling.Telling.tell_packet.Given as goal

-- the first of the messages so far that miss the rule are told
abbrev pub invariant-messages : goal.invariant-messages
invariant-messages l = record {
  counted : l.number + length l.rest ≡ l.packet.before + length l.fn.messages;
  passing : (history : List Viewed) → (most : ℕ) → IsTelling l.rule l.origins most history l.fn.self → l.packet.before ≡ length history
      → IsPassing (λ hs. IsTelling l.rule l.origins most hs l.self) l.kind l.channel l.fn.messages l.rest history;
}

abbrev pub decreases-messages : goal.decreases-messages
decreases-messages l = length l.rest
