-- What frames come to where a call of each name in scope has so many blocks in one another, and sends so many messages.
use Rattle.std.specs.Prelude.{◌≡◌, ℕ, min}
use Rattle.frame_tree.specs.Tree.{Tree, chain}
use Rattle.frame_tree.specs.Names.{Scope}
use Rattle.frame_tree.specs.Bounds.{depth_in, messages_in}
use Rattle.frame_text.specs.OutlineParts.{tree_known, row_known}
use Rattle.frame_text.specs.declared.weights.Weight.{Weight}

pub record IsWeight (ds ms : Scope ℕ) (t : Tree) (w : Weight) : Type 0 where
  pub messages : w.messages ≡ min 1000001 (messages_in ms t)
  pub depth : w.depth ≡ min 17 (depth_in ds t)

abbrev pub IsOfFrame : Scope ℕ → Scope ℕ → Weight → Type 0
IsOfFrame ds ms w = IsWeight ds ms (tree_known w.outline.value) w

abbrev pub IsOfRow : Scope ℕ → Scope ℕ → Weight → Type 0
IsOfRow ds ms w = IsWeight ds ms (chain (row_known w.outline.value)) w
