use Rattle.std.proofs.Common.{◌≡◌, ℕ, List, Some}
use Rattle.bench_clock.proofs.Streamed.{IsAmong, IsSeen, IsTold, IsUpTo}
use Rattle.bench_clock.proofs.sound.read_sound_marks.Given as goal

-- the stretches so far are those of the file, and the marks those of its packets
abbrev pub invariant-stretches : goal.invariant-stretches
invariant-stretches g l = record {
  rises : IsUpTo l.found.marks.items l.last;
  known : (file : List ℕ) → g.R.Read.remaining l.fn.input ≡ Some file → IsAmong file l.stretches;
  seen : IsSeen l.named l.found.any l.stretches.earlier;
  told : (file : List ℕ) → g.R.Read.remaining l.fn.input ≡ Some file → IsTold l.named file l.found.marks.items l.last l.stretches.earlier;
}
