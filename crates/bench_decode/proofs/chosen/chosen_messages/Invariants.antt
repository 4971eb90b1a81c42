use Rattle.std.proofs.Common.{take}
use Rattle.std.specs.Prelude.{reverse}
use Rattle.bench_select.specs.Viewed.{viewed_in}
use Rattle.bench_decode.specs.ByTime.{AreChosen}
use Rattle.bench_decode.proofs.chosen.chosen_messages.Given as goal

-- those of the packets so far are chosen
abbrev pub invariant-packets : goal.invariant-packets
invariant-packets l = AreChosen l.selection (reverse (viewed_in (take l.place l.index))) l.choosing
