use Rattle.frame_tree.specs.Scopes.{scope_of}
use Rattle.std.proofs.Common.{◌≡◌, ◌+◌, ◌*◌, ◌≤◌, ℕ, length}
use Rattle.frame_text.specs.Tokens.{tokens}
use Rattle.frame_text.specs.Frames.{frames_at, frame_at}
use Rattle.frame_text.proofs.Scripts.{onto}
use Rattle.frame_text.proofs.frames.+frames.Given as goal

abbrev pub decreases-block : goal.decreases-block
decreases-block g l = 5 * l.around.now.depth

abbrev pub decreases-else_part : goal.decreases-else_part
decreases-else_part g l = 5 * l.around.now.depth + 1

abbrev pub decreases-choice : goal.decreases-choice
decreases-choice g l = 5 * l.around.now.depth + 2

abbrev pub decreases-until : goal.decreases-until
decreases-until g l = 5 * l.around.now.depth + 1

abbrev pub decreases-frame : goal.decreases-frame
decreases-frame g l = 5 * l.around.now.depth + 3

abbrev pub decreases-frames : goal.decreases-frames
decreases-frames g l = 5 * l.around.now.depth + 4

abbrev pub invariant-frames-loop-word : goal.invariant-frames-loop-word
invariant-frames-loop-word g l = record {
  read : (n : ℕ) × (length (tokens l.rest) ≤ n) × (frames_at (frame_at (scope_of l.around.scope.now) l.around.depth) (length (tokens l.initial.rest)) (tokens l.initial.rest) ≡ onto (g.B.Builder.row_trees l.found) (frames_at (frame_at (scope_of l.around.scope.now) l.around.depth) n (tokens l.rest)));
  fewer : length (tokens l.rest) ≤ length (tokens l.initial.rest);
  fits : g.B.Builder.row_fits (scope_of l.around.scope.now) (scope_of l.around.costs.now) l.found;
}

abbrev pub decreases-frames-loop-word : goal.decreases-frames-loop-word
decreases-frames-loop-word g l = length (tokens l.rest)
