-- What the text of a script comes to.
use Rattle.std.specs.Prelude.{◌≡◌, Result, Ok, Err}
use Rattle.text_lines.specs.Words.{Text}
use Rattle.frame_tree.specs.Tree.{Tree, nothing}
use Rattle.frame_tree.specs.Bounds.{IsSound}
use Rattle.frame_text.specs.Frames.{tree_of_text}
use Rattle.frame_text.specs.declared.faults.Cause.{Cause}
use Rattle.frame_code.specs.Table.{Code}
use Rattle.frame_asm.specs.Shapes.{code_of_tree}

abbrev pub tree_or_nothing : Result Tree Cause → Tree
tree_or_nothing (Ok tree) = tree
tree_or_nothing (Err cause) = nothing

-- the tree of a text; nothing, where it has none
unfoldable pub tree_spelled : Text → Tree
tree_spelled text = tree_or_nothing (tree_of_text text)

-- the text has a tree, which is sound, and this is its code
pub record IsProgramOf (text : Text) (program : Code) : Type 0 where
  pub spells : tree_of_text text ≡ Ok (tree_spelled text)
  pub sound : IsSound (tree_spelled text)
  pub program_is : program ≡ code_of_tree (tree_spelled text)
