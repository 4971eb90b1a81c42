use Rattle.std.proofs.Common.{◌≡◌, ◌+◌, List, length}
use Rattle.bench_select.specs.Viewed.{Viewed}
use Rattle.bench_select.proofs.Passed.{IsPassing}
use Rattle.bench_signals.specs.Counting.{AreCounted}
use Rattle.bench_signals.proofs.counting.Counting.note_packet.Given as goal

-- the messages so far are counted
abbrev pub invariant-messages : goal.invariant-messages
invariant-messages l = record {
  counted : l.number + length l.rest ≡ l.fn.packet.before + length l.fn.messages;
  passing : (history : List Viewed) → AreCounted l.selection l.signals history l.fn.self → l.fn.packet.before ≡ length history
      → IsPassing (λ hs. AreCounted l.selection l.signals hs l.self) l.kind l.channel l.fn.messages l.rest history;
}

abbrev pub decreases-messages : goal.decreases-messages
decreases-messages l = length l.rest
