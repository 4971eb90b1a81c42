-- The scripts of the grammar, and the limits on the tree of a text (own choice).
use Rattle.std.specs.Prelude.{◌≡◌, ℕ, ◌≤◌, true, List, [], ◌∷◌, ◌++◌, codes}
use Rattle.frame_tree.specs.Tree.{Tree}
use Rattle.frame_tree.specs.Tree as tree
use Rattle.frame_tree.specs.Names.{is_name}
use Rattle.frame_tree.specs.Bounds.{depth, worst_messages, IsDefined}
use Rattle.frame_text.specs.Tokens.{tokens}
use Rattle.frame_text.specs.Reading.{Tokens}
use Rattle.frame_grammar.specs.Words.{braces}
use Rattle.frame_grammar.specs.Frames.{SpellFrames}

-- script
pub data SpellScript : Tokens → Tree → Type 0 where
  define : {label : List ℕ} {body script : Tokens} {b r : Tree}
      → is_name label ≡ true → SpellFrames body b → SpellScript script r
      → SpellScript (codes "define" ∷ label ∷ braces body ++ script) (tree.define label b r)
  main : {frames : Tokens} {t : Tree} → SpellFrames frames t → SpellScript frames t

-- the tree of a whole text
pub record HasTree (text : List ℕ) (t : Tree) : Type 0 where
  pub spelled : SpellScript (tokens text) t
  -- at most 16 blocks stand in one another; a call counts as the blocks of its definition, whose own braces are none
  pub shallow : depth t ≤ 16
  -- there are at most 32 definitions, each with a name of its own, and each call names one that stands above
  pub defined : IsDefined [] t
  -- at worst so many messages are sent
  pub bounded : worst_messages t ≤ 1000000
