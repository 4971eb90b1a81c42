use Rattle.std.proofs.Common.{◌≡◌, ◌+◌, List, length}
use Rattle.bench_select.specs.Viewed.{Viewed}
use Rattle.bench_decode.specs.Printed.{IsBehind}
use Rattle.bench_decode.proofs.PrintedLines.{ArePassed}
use Rattle.bench_decode.proofs.printing.put_messages.Given as goal

-- the messages so far were printed
abbrev pub invariant-messages : goal.invariant-messages
invariant-messages g l = record {
  counted : l.number + length l.rest ≡ l.fn.packet.before + length l.fn.messages;
  passing : (history : List Viewed) → IsBehind l.output history l.fn.printing → l.fn.packet.before ≡ length history
      → ArePassed l.output l.kind l.channel history l.fn.messages l.rest (g.W.Write.contents l.fn.out) l.fn.printing (g.W.Write.contents l.out) l.printing;
}

abbrev pub decreases-messages : goal.decreases-messages
decreases-messages g l = length l.rest
