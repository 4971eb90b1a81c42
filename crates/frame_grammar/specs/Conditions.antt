-- The conditions of the grammar of scripts (own choice).
use Rattle.std.specs.Prelude.{◌≡◌, ℕ, ◌≤◌, List, [], ◌∷◌, ◌++◌, Some, codes}
use Rattle.mil_status.specs.Status.{bit_named}
use Rattle.mil_status.specs.declared.bit.StatusBit.{StatusBit}
use Rattle.mil_message.specs.declared.outcome_test.OutcomeTest.TheVariants.{Failed, Silent, Bit}
use Rattle.frame_tree.specs.Tree.{Condition, asked, negated, both, either}
use Rattle.frame_tree.specs.Bounds.{operators}
use Rattle.frame_text.specs.Tokens.{tokens}
use Rattle.frame_text.specs.Reading.{Tokens}

-- cond
pub data SpellCondition : Tokens → Condition → Type 0 where
  fail : SpellCondition (codes "fail" ∷ []) (asked Failed)
  silent : SpellCondition (codes "silent" ∷ []) (asked Silent)
  bit : {name : List ℕ} {b : StatusBit}
      → bit_named name ≡ Some b
      → SpellCondition (codes "bit" ∷ name ∷ []) (asked (Bit b))
  not : {one : Tokens} {a : Condition}
      → SpellCondition one a
      → SpellCondition (codes "not" ∷ one) (negated a)
  all : {one other : Tokens} {a b : Condition}
      → SpellCondition one a → SpellCondition other b
      → SpellCondition (codes "all" ∷ codes "(" ∷ one ++ other ++ codes ")" ∷ []) (both a b)
  any : {one other : Tokens} {a b : Condition}
      → SpellCondition one a → SpellCondition other b
      → SpellCondition (codes "any" ∷ codes "(" ∷ one ++ other ++ codes ")" ∷ []) (either a b)

-- the condition of a whole text: at most 16 operators stand above a test
abbrev pub HasCondition : List ℕ → Condition → Type 0
HasCondition text c = SpellCondition (tokens text) c × (operators c ≤ 16)
