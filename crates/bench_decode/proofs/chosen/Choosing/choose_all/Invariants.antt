use Rattle.std.proofs.Common.{◌≡◌, ◌+◌, List, length}
use Rattle.bench_select.specs.Viewed.{Viewed}
use Rattle.bench_decode.specs.ByTime.{AreChosen}
use Rattle.bench_decode.proofs.Passing.{IsPassing}
use Rattle.bench_decode.proofs.chosen.Choosing.choose_all.Given as goal

-- those of the messages so far are chosen
abbrev pub invariant-messages : goal.invariant-messages
invariant-messages l = record {
  counted : l.number + length l.rest ≡ l.fn.packet.before + length l.fn.messages;
  passing : (history : List Viewed) → AreChosen l.selection history l.fn.self → l.fn.packet.before ≡ length history → IsPassing (λ (hs : List Viewed). AreChosen l.selection hs l.self) l.kind l.channel l.fn.packet.before l.number l.fn.messages l.rest history;
}

abbrev pub decreases-messages : goal.decreases-messages
decreases-messages l = length l.rest
