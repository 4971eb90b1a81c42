-- The names in scope as plain data.
use Rattle.std.specs.Prelude.{ℕ, [], ◌∷◌}
use Rattle.frame_tree.specs.Names.{Scope}
use Rattle.frame_tree.specs.declared.names.Scope.{Scope as Names, fold-Scope}
use Rattle.frame_tree.specs.declared.names.Scope.TheOpen.{Scope-F}

abbrev pub scope_step : Scope-F (Scope ℕ) → Scope ℕ
scope_step Scope-F.Empty = []
scope_step (Scope-F.With n k others) = (n.now, k) ∷ others.now

abbrev pub scope_of : Names → Scope ℕ
scope_of = fold-Scope (Scope ℕ) scope_step
