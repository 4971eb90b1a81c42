use Rattle.std.proofs.Common.{◌≡◌, ◌≤◌, ◌+◌, ℕ, List, length}
use Rattle.bench_select.specs.Viewed.{Viewed}
use Rattle.bench_select.proofs.Passed.{IsPassing}
use Rattle.bench_view.specs.Filling.{AreFilled}
use Rattle.bench_view.proofs.streaming.fill.Given as goal

-- the lines of the messages so far were put
abbrev pub invariant-messages : goal.invariant-messages
invariant-messages l = record {
  counted : l.number + length l.rest ≡ l.fn.packet.before + length l.fn.messages;
  few : l.filling.chosen ≤ l.number;
  passing : (front : List ℕ) → (history : List Viewed) → AreFilled front l.asked.signals.now l.asked.selection history l.fn.filling → l.fn.packet.before ≡ length history
      → IsPassing (λ hs. AreFilled front l.asked.signals.now l.asked.selection hs l.filling) l.kind l.channel l.fn.messages l.rest history;
}

abbrev pub decreases-messages : goal.decreases-messages
decreases-messages l = length l.rest
