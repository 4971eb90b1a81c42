-- The trees that scripts may have (own choice): definitions, and behind them frames in a chain.
use Rattle.std.specs.Prelude.{◌≡◌, ℕ, ◌<◌, Bool, true, false, List, [], ◌∷◌, Ok}
use Rattle.mil_message.specs.declared.forms.Form.{Form}
use Rattle.mil_message.specs.Forms.{data_words}
use Rattle.mil_message.specs.Rules.{IsLawful}
use Rattle.frame_tree.specs.Tree.{Tree, send, retry, gap, repeat, choose, until, timed, nothing, chained, call, define}
use Rattle.frame_tree.specs.Names.{is_name}
use Rattle.frame_tree.specs.Bounds.{IsSound}
use Rattle.frame_text.specs.Frames.{tree_of_text}
use Rattle.frame_text.specs.Printing.{printed}

-- 16-bit words
abbrev pub AreWords : List ℕ → Type 0
AreWords [] = Unit {0}
AreWords (w ∷ ws) = (w < 65536) × AreWords ws

-- a message that a script may have: its numbers in their ranges, its words of 16 bits
abbrev pub IsReadable : Form → Type 0
IsReadable m = IsLawful m × AreWords (data_words m)

-- Frames in a chain that holds no chain itself, or one frame: the first argument tells which. Each message is one that
-- a script may have, and what is called has a name.
abbrev pub IsRead : Bool → Tree → Type 0
IsRead true nothing = Unit {0}
IsRead true (chained a b) = IsRead false a × IsRead true b
IsRead true (send line m) = ⊥
IsRead true (retry n line m) = ⊥
IsRead true (gap n) = ⊥
IsRead true (repeat n b) = ⊥
IsRead true (choose c a b) = ⊥
IsRead true (until c n b) = ⊥
IsRead true (timed h b) = ⊥
IsRead true (call n) = ⊥
IsRead true (define n b r) = ⊥
IsRead false nothing = ⊥
IsRead false (chained a b) = ⊥
IsRead false (send line m) = IsReadable m
IsRead false (retry n line m) = IsReadable m
IsRead false (gap n) = Unit {0}
IsRead false (repeat n b) = IsRead true b
IsRead false (choose c a b) = IsRead true a × IsRead true b
IsRead false (until c n b) = IsRead true b
IsRead false (timed h b) = IsRead true b
IsRead false (call n) = is_name n ≡ true
IsRead false (define n b r) = ⊥

-- the tree of a script: definitions, and a chain behind them
abbrev pub IsScript : Tree → Type 0
IsScript (define n b r) = (is_name n ≡ true) × IsRead true b × IsScript r
IsScript t = IsRead true t

-- the print of a sound script is read as that script
abbrev pub ScriptsReadBack : Type 0
ScriptsReadBack = (t : Tree) → IsScript t → IsSound t → tree_of_text (printed t) ≡ Ok t
