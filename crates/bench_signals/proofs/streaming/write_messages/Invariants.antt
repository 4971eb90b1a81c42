use Rattle.std.proofs.Common.{◌≡◌, ◌+◌, ℕ, List, length}
use Rattle.std.specs.Prelude.{Option}
use Rattle.csv.specs.Writing.{text_written}
use Rattle.bench_export.specs.Between.{IsBetween}
use Rattle.bench_select.specs.Viewed.{Viewed}
use Rattle.bench_select.proofs.Passed.{IsPassing}
use Rattle.bench_signals.specs.Latest.{AreWritten}
use Rattle.bench_signals.proofs.streaming.write_messages.Given as goal

-- the rows of the messages so far were written
abbrev pub invariant-messages : goal.invariant-messages
invariant-messages g l = record {
  counted : l.number + length l.rest ≡ l.fn.packet.before + length l.fn.messages;
  between : IsBetween l.writer;
  passing : (history : List Viewed) → (got : Option (List ℕ)) → AreWritten l.sheet l.fn.clock got history (text_written g.W.Write.contents l.fn.writer) l.fn.room.latest → l.fn.packet.before ≡ length history
      → IsPassing (λ hs. AreWritten l.sheet l.fn.clock got hs (text_written g.W.Write.contents l.writer) l.room.latest) l.kind l.channel l.fn.messages l.rest history;
}

abbrev pub decreases-messages : goal.decreases-messages
decreases-messages g l = length l.rest
