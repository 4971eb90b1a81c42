-- The operations of a tree (own choice): each kind of frame has its shape, with absolute places, and Halt stands behind
-- all.
use Rattle.std.specs.Prelude.{ℕ, ◌+◌, ◌<◌, List, [], ◌∷◌, ◌++◌, length}
use Rattle.mil_word.specs.declared.Line.{Line}
use Rattle.mil_message.specs.declared.messages.Message.{Message}
use Rattle.mil_message.specs.declared.outcome_test.OutcomeTest.{OutcomeTest}
use Rattle.mil_message.specs.declared.outcome_test.OutcomeTest.TheVariants.{Failed}
use Rattle.frame_tree.specs.Tree.{Condition, asked, negated, both, either, Tree, send, retry, gap, repeat, choose}
use Rattle.frame_tree.specs.Tree.{until, timed, nothing, chained, call, define}
use Rattle.frame_tree.specs.Names.{Scope, meant_by}
use Rattle.frame_code.specs.declared.Op.{Op}
use Rattle.frame_code.specs.declared.Op.TheVariants as op
use Rattle.frame_code.specs.Table.{Code}

-- how many operations a condition has
abbrev pub branch_size : Condition → ℕ
branch_size (asked k) = 3
branch_size (negated c) = branch_size c
branch_size (both a b) = branch_size a + branch_size b
branch_size (either a b) = branch_size a + branch_size b

-- the operations of one test: to t where it holds, and to f where it does not
abbrev pub probe : OutcomeTest → ℕ → ℕ → List Op
probe k t f = op.Test k ∷ op.JumpFalse f ∷ op.Jump t ∷ []

-- the operations of a condition from place p: to t where it holds, and to f where it does not
abbrev pub branch : ℕ → Condition → ℕ → ℕ → List Op
branch p (asked k) t f = probe k t f
branch p (negated c) t f = branch p c f t
branch p (both a b) t f = branch p a (p + branch_size a) f ++ branch (p + branch_size a) b t f
branch p (either a b) t f = branch p a t (p + branch_size a) ++ branch (p + branch_size a) b t f

-- how many operations a frame has, the Halt behind all not counted
abbrev pub size : Tree → ℕ
size (send l x) = 1
size (retry n l x) = 8
size (gap t) = 1
size (repeat n b) = size b + 2
size (choose c a b) = branch_size c + size a + 1 + size b
size (until c n b) = branch_size c + size b + 3
size (timed h b) = size b + 2
size nothing = 0
size (chained a b) = size a + size b
size (call n) = 1
size (define n b r) = size b + 1 + size r

-- the messages in the order of the text, one for each send and retry, none shared
abbrev pub tree_messages : Tree → List (Line × Message)
tree_messages (send l x) = (l, x) ∷ []
tree_messages (retry n l x) = (l, x) ∷ []
tree_messages (gap t) = []
tree_messages (repeat n b) = tree_messages b
tree_messages (choose c a b) = tree_messages a ++ tree_messages b
tree_messages (until c n b) = tree_messages b
tree_messages (timed h b) = tree_messages b
tree_messages nothing = []
tree_messages (chained a b) = tree_messages a ++ tree_messages b
tree_messages (call n) = []
tree_messages (define n b r) = tree_messages b ++ tree_messages r

-- how many they are
abbrev pub entries : Tree → ℕ
entries (send l x) = 1
entries (retry n l x) = 1
entries (gap t) = 0
entries (repeat n b) = entries b
entries (choose c a b) = entries a + entries b
entries (until c n b) = entries b
entries (timed h b) = entries b
entries nothing = 0
entries (chained a b) = entries a + entries b
entries (call n) = 0
entries (define n b r) = entries b + entries r

-- the first attempt, and a loop of the further ones, each on the other line, that is left where one did not fail
abbrev pub retry_shape : ℕ → ℕ → ℕ → List Op
retry_shape p m n =
    op.Send m ∷ op.Loop n ∷ op.Test Failed ∷ op.JumpFalse (p + 6) ∷ op.Alt m ∷ op.Jump (p + 7) ∷ op.Leave (p + 8)
    ∷ op.Again (p + 2) ∷ []

-- what stands in front of the body of an until from place p, whose body has s operations: the loop, the condition and
-- the way out
abbrev pub until_front : ℕ → Condition → ℕ → ℕ → List Op
until_front p c n s =
    let l = p + 1 + branch_size c in
    op.Loop n ∷ (branch (p + 1) c l (l + 1) ++ op.Leave (l + s + 2) ∷ [])

-- The operations of a frame from place p, whose messages begin at index m, where the names in scope are those of
-- routines with these numbers: a definition is the routine behind those in scope, its body with a Return, and the rest
-- stands behind it.
abbrev pub shape : Scope ℕ → ℕ → ℕ → Tree → List Op
shape rs p m (send l x) = op.Send m ∷ []
shape rs p m (retry n l x) = retry_shape p m n
shape rs p m (gap t) = op.SetGap t ∷ []
shape rs p m (repeat n b) = op.Loop n ∷ (shape rs (p + 1) m b ++ op.Again (p + 1) ∷ [])
shape rs p m (choose c a b) =
    let t = p + branch_size c in
    let f = t + size a + 1 in
    branch p c t f ++ (shape rs t m a ++ (op.Jump (f + size b) ∷ shape rs f (m + entries a) b))
shape rs p m (until c n b) =
    let l = p + 1 + branch_size c in
    op.Loop n ∷ (branch (p + 1) c l (l + 1)
    ++ (op.Leave (l + size b + 2) ∷ (shape rs (l + 1) m b ++ op.Again (p + 1) ∷ [])))
shape rs p m (timed h b) = op.Begin ∷ (shape rs (p + 1) m b ++ op.Pace h ∷ [])
shape rs p m nothing = []
shape rs p m (chained a b) = shape rs p m a ++ shape rs (p + size a) (m + entries a) b
shape rs p m (call n) = op.Call (meant_by 0 rs n) ∷ []
shape rs p m (define n b r) = shape rs p m b
    ++ (op.Return ∷ shape ((n, length rs) ∷ rs) (p + size b + 1) (m + entries b) r)

-- operations, and behind them those of a frame
abbrev pub with_shape : Scope ℕ → List Op → ℕ → Tree → List Op
with_shape rs os m t = os ++ shape rs (length os) m t

-- the code of a tree
abbrev pub code_of_tree : Tree → Code
code_of_tree t = record { operations = shape [] 0 0 t ++ op.Halt ∷ []; messages = tree_messages t }

-- each name in scope is that of a routine, whose number is at most 31
abbrev pub AreRoutines : Scope ℕ → Type 0
AreRoutines [] = Unit {0}
AreRoutines (r ∷ rs) = (r.1 < 32) × AreRoutines rs
