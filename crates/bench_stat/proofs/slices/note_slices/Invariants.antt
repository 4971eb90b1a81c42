use Rattle.std.proofs.Common.{◌≡◌, ◌<◌, ◌≤◌, ℕ, get_or}
use Rattle.bench_stat.specs.declared.slices.Slice.{Slice}
use Rattle.bench_stat.specs.Slices.{with_part}
use Rattle.bench_stat.proofs.slices.note_slices.Given as goal

-- the slices so far have their part of the message
abbrev pub invariant-slices : goal.invariant-slices
invariant-slices l = record {
  done : (k : ℕ) (d : Slice) → k < l.slice-index → get_or l.slices k d ≡ with_part l.view (get_or l.fn.slices k d);
  rest : (k : ℕ) (d : Slice) → l.slice-index ≤ k → get_or l.slices k d ≡ get_or l.fn.slices k d;
}
