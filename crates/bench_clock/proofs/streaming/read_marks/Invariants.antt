use Rattle.std.proofs.Common.{◌≡◌, ℕ, List, Some}
use Rattle.ch11_stream.proofs.Readings.{IsAmid}
use Rattle.bench_clock.proofs.Streamed.{IsSeen, IsTold, IsUpTo}
use Rattle.bench_clock.proofs.streaming.read_marks.Given as goal

-- the packets so far are those of the file, and the marks theirs
abbrev pub invariant-packets : goal.invariant-packets
invariant-packets g l = record {
  rises : IsUpTo l.found.marks.items l.last;
  known : (file : List ℕ) → g.R.Read.remaining l.fn.input ≡ Some file → IsAmid file l.packets;
  seen : IsSeen l.named l.found.any l.packets.earlier;
  told : (file : List ℕ) → g.R.Read.remaining l.fn.input ≡ Some file → IsTold l.named file l.found.marks.items l.last l.packets.earlier;
}
