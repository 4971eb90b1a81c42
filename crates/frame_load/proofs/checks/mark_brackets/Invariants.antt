use Rattle.std.proofs.Common.{◌≡◌, ℕ, ◌<◌, get_or}
use Rattle.frame_code.specs.Loadable.{open_at}
use Rattle.frame_load.specs.Marks.{innermost}
use Rattle.frame_load.proofs.checks.mark_brackets.Given as goal

abbrev pub invariant-loop-i : goal.invariant-loop-i
invariant-loop-i l = record {
  now : l.current ≡ innermost (open_at l.operations l.i);
  so_far : (p : ℕ) → p < l.i → get_or l.brackets p 0 ≡ innermost (open_at l.operations p);
}
