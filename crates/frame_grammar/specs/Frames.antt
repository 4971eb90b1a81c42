-- The frames of the grammar of scripts (own choice).
use Rattle.std.specs.Prelude.{◌≡◌, ℕ, ◌*◌, ◌≤◌, true, List, [], ◌∷◌, ◌++◌, codes}
use Rattle.mil_word.specs.declared.Line.{Line}
use Rattle.mil_word.specs.Timing.{least_gap}
use Rattle.mil_message.specs.declared.forms.Form.{Form}
use Rattle.frame_tree.specs.Tree.{Condition, Tree, nothing, chained}
use Rattle.frame_tree.specs.Tree as tree
use Rattle.frame_tree.specs.Names.{is_name}
use Rattle.frame_tree.specs.Bounds.{operators}
use Rattle.frame_text.specs.Reading.{Tokens}
use Rattle.frame_grammar.specs.Words.{SpellsWithin, braces}
use Rattle.frame_grammar.specs.Messages.{SpellSend}
use Rattle.frame_grammar.specs.Conditions.{SpellCondition}

mutual
  -- frame: at most 16 operators stand above a test of its condition; a period is written in µs, and kept in hundreds
  pub data SpellFrame : Tokens → Tree → Type 0 where
    send : {message : Tokens} {l : Line} {m : Form}
        → SpellSend message l m
        → SpellFrame (codes "send" ∷ message) (tree.send l m)
    retry : {number : List ℕ} {message : Tokens} {n : ℕ} {l : Line} {m : Form}
        → SpellsWithin 1 8 number n → SpellSend message l m
        → SpellFrame (codes "retry" ∷ number ∷ codes "send" ∷ message) (tree.retry n l m)
    gap : {number : List ℕ} {n : ℕ}
        → SpellsWithin least_gap 65535 number n
        → SpellFrame (codes "gap" ∷ number ∷ []) (tree.gap n)
    repeat : {number : List ℕ} {body : Tokens} {n : ℕ} {b : Tree}
        → SpellsWithin 1 10000 number n → SpellFrames body b
        → SpellFrame (codes "repeat" ∷ number ∷ braces body) (tree.repeat n b)
    choice : {cond one : Tokens} {c : Condition} {a : Tree}
        → SpellCondition cond c → operators c ≤ 16 → SpellFrames one a
        → SpellFrame (codes "if" ∷ cond ++ braces one) (tree.choose c a nothing)
    choice_else : {cond one other : Tokens} {c : Condition} {a b : Tree}
        → SpellCondition cond c → operators c ≤ 16 → SpellFrames one a → SpellFrames other b
        → SpellFrame (codes "if" ∷ cond ++ braces one ++ codes "else" ∷ braces other) (tree.choose c a b)
    until : {cond body : Tokens} {number : List ℕ} {c : Condition} {n : ℕ} {b : Tree}
        → SpellCondition cond c → operators c ≤ 16 → SpellsWithin 1 10000 number n → SpellFrames body b
        → SpellFrame (codes "until" ∷ cond ++ codes "at" ∷ codes "most" ∷ number ∷ braces body) (tree.until c n b)
    timed : {number : List ℕ} {body : Tokens} {h : ℕ} {b : Tree}
        → SpellsWithin 100 6553500 number (h * 100) → SpellFrames body b
        → SpellFrame (codes "frame" ∷ number ∷ braces body) (tree.timed h b)
    call : {label : List ℕ}
        → is_name label ≡ true
        → SpellFrame (codes "call" ∷ label ∷ []) (tree.call label)

  -- frame*
  pub data SpellFrames : Tokens → Tree → Type 0 where
    none : SpellFrames [] nothing
    more : {frame frames : Tokens} {a b : Tree}
        → SpellFrame frame a → SpellFrames frames b
        → SpellFrames (frame ++ frames) (chained a b)
