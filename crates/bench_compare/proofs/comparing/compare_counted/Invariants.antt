use Rattle.std.proofs.Common.{◌≡◌, ℕ, List, Ok, Some}
use Rattle.ch11_reader.specs.Recording.{Found, packets_in}
use Rattle.bench_compare.specs.Compared.{compared_below}
use Rattle.bench_compare.specs.Counting.{AreCounts}
use Rattle.bench_compare.proofs.comparing.compare_counted.Given as goal

-- the channels so far were compared
abbrev pub invariant-channels : goal.invariant-channels
invariant-channels g l = (file other : List ℕ) (ps qs : List Found) → g.A.Reopen.bytes l.sides.first.now ≡ Some file → g.B.Reopen.bytes l.sides.second.now ≡ Some other → packets_in file ≡ Ok ps → packets_in other ≡ Ok qs
    → AreCounts l.sides.of_first ps l.firsts → AreCounts l.sides.of_second qs l.seconds
    → l.compared.items ≡ compared_below l.within l.sides.of_first l.sides.of_second ps qs l.place
