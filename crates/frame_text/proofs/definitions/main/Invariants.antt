use Rattle.frame_tree.specs.Scopes.{scope_of}
use Rattle.std.proofs.Common.{◌≡◌, ◌≤◌, ℕ, length}
use Rattle.frame_text.specs.Tokens.{tokens}
use Rattle.frame_text.specs.Frames.{main_at}
use Rattle.frame_text.proofs.Scripts.{onto_script}
use Rattle.frame_text.proofs.definitions.main.Given as goal

abbrev pub invariant-loop-word : goal.invariant-loop-word
invariant-loop-word g l = record {
  read : (n : ℕ) × (length (tokens l.rest) ≤ n)
      × (main_at (scope_of l.fn.scope) (length (tokens l.text)) (tokens l.text) ≡ onto_script (g.B.Builder.row_trees l.found) (main_at (scope_of l.fn.scope) n (tokens l.rest)));
  fits : g.B.Builder.row_fits (scope_of l.fn.scope) (scope_of l.fn.costs) l.found;
}

abbrev pub decreases-loop-word : goal.decreases-loop-word
decreases-loop-word g l = length (tokens l.rest)
