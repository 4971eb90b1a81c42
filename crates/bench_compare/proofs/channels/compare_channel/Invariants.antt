use Rattle.std.proofs.Common.{◌≡◌, ℕ, ◌≤◌, List, Ok, Some}
use Rattle.ch11_reader.specs.Contents.{total_in}
use Rattle.ch11_reader.specs.Recording.{Found, packets_in}
use Rattle.bench_compare.proofs.Stepping.{IsComparing}
use Rattle.bench_compare.proofs.channels.compare_channel.Given as goal

abbrev pub invariant-packets : goal.invariant-packets
invariant-packets g l = record {
  same : l.standing.same ≤ total_in l.packets.earlier;
  going : (file other : List ℕ) (ps qs : List Found) → g.R.Read.remaining l.fn.first ≡ Some file → g.S.Read.remaining l.fn.second ≡ Some other → packets_in file ≡ Ok ps → packets_in other ≡ Ok qs
      → IsComparing l.asked.within l.asked.first.selection.now l.asked.second.selection.now l.asked.first.channel l.asked.second.channel file other ps qs l.packets l.standing l.pass;
}
