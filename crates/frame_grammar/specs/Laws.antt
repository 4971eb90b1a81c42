-- What is read of a text is what the rules derive for it (own choice).
use Rattle.std.specs.Prelude.{◌≡◌, ℕ, List, Ok, ◌↔◌}
use Rattle.mil_word.specs.declared.Line.{Line}
use Rattle.mil_message.specs.declared.forms.Form.{Form}
use Rattle.frame_tree.specs.Tree.{Condition, Tree}
use Rattle.frame_text.specs.Messages.{send_of_text}
use Rattle.frame_text.specs.Conditions.{condition_of_text}
use Rattle.frame_text.specs.Frames.{tree_of_text}
use Rattle.frame_grammar.specs.Messages.{HasSend}
use Rattle.frame_grammar.specs.Conditions.{HasCondition}
use Rattle.frame_grammar.specs.Scripts.{HasTree}

-- a tree is read of a text where the rules derive it, and nowhere else
abbrev pub ScriptsAreDerived : Type 0
ScriptsAreDerived = (text : List ℕ) (t : Tree) → (tree_of_text text ≡ Ok t) ↔ HasTree text t

-- the same of conditions
abbrev pub ConditionsAreDerived : Type 0
ConditionsAreDerived = (text : List ℕ) (c : Condition) → (condition_of_text text ≡ Ok c) ↔ HasCondition text c

-- the same of a line and a message
abbrev pub SendsAreDerived : Type 0
SendsAreDerived = (text : List ℕ) (x : Line × Form) → (send_of_text text ≡ Ok x) ↔ HasSend text x

-- the rules derive at most one tree for a text
abbrev pub OneTree : Type 0
OneTree = (text : List ℕ) (t u : Tree) → HasTree text t → HasTree text u → t ≡ u
