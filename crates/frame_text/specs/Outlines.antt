-- Conditions and frames as lists of steps that make them one after the other on a stack, so that they have a form that
-- holds nothing of its own kind.
use Rattle.std.specs.Prelude.{ℕ, List, [], ◌∷◌, ◌++◌}
use Rattle.mil_word.specs.declared.Line.{Line}
use Rattle.mil_message.specs.declared.messages.Message.{Message}
use Rattle.mil_message.specs.declared.outcome_test.OutcomeTest.{OutcomeTest}
use Rattle.mil_message.specs.declared.outcome_test.OutcomeTest.TheVariants.{Failed}
use Rattle.frame_tree.specs.Tree.{Condition, asked, negated, both, either}
use Rattle.frame_tree.specs.Tree.{Tree, send, retry, gap, repeat, choose, until, timed, nothing, chained, call, define}

-- a step takes what it needs from the top of the stack
pub data Step : Type 0 where
  ask : OutcomeTest → Step
  negate : Step
  all : Step
  any : Step
  sent : Line → Message → Step
  retried : ℕ → Line → Message → Step
  gap_set : ℕ → Step
  repeated : ℕ → Step
  chosen : Step
  run_until : ℕ → Step
  with_period : ℕ → Step
  none : Step
  joined : Step
  called : List ℕ → Step
  defined : List ℕ → Step

-- the conditions and the frames that are made, the latest first
pub record Stack : Type 0 where
  pub conditions : List Condition
  pub trees : List Tree

abbrev pub with_trees : Stack → List Tree → Stack
with_trees s trees = record { conditions = s.conditions; trees = trees }

abbrev pub with_conditions : Stack → List Condition → Stack
with_conditions s conditions = record { conditions = conditions; trees = s.trees }

abbrev pub on_one : (Condition → Condition) → List Condition → List Condition
on_one f [] = []
on_one f (c ∷ cs) = f c ∷ cs

abbrev pub on_two : (Condition → Condition → Condition) → List Condition → List Condition
on_two f (b ∷ a ∷ cs) = f a b ∷ cs
on_two f _ = []

abbrev pub on_tree : (Tree → Tree) → List Tree → List Tree
on_tree f [] = []
on_tree f (t ∷ ts) = f t ∷ ts

abbrev pub on_trees : (Tree → Tree → Tree) → List Tree → List Tree
on_trees f (b ∷ a ∷ ts) = f a b ∷ ts
on_trees f _ = []

-- with the condition on the top, which is taken away
abbrev pub on_condition : (Condition → List Tree → List Tree) → List Condition → List Tree → Stack
on_condition f [] ts = record { conditions = []; trees = [] }
on_condition f (c ∷ cs) ts = record { conditions = cs; trees = f c ts }

abbrev pub made_by : Step → Stack → Stack
made_by (ask t) s = with_conditions s (asked t ∷ s.conditions)
made_by negate s = with_conditions s (on_one negated s.conditions)
made_by all s = with_conditions s (on_two both s.conditions)
made_by any s = with_conditions s (on_two either s.conditions)
made_by (sent l m) s = with_trees s (send l m ∷ s.trees)
made_by (retried n l m) s = with_trees s (retry n l m ∷ s.trees)
made_by (gap_set t) s = with_trees s (gap t ∷ s.trees)
made_by (repeated n) s = with_trees s (on_tree (repeat n) s.trees)
made_by chosen s = on_condition (λ c ts. on_trees (choose c) ts) s.conditions s.trees
made_by (run_until n) s = on_condition (λ c ts. on_tree (until c n) ts) s.conditions s.trees
made_by (with_period h) s = with_trees s (on_tree (timed h) s.trees)
made_by none s = with_trees s (nothing ∷ s.trees)
made_by joined s = with_trees s (on_trees chained s.trees)
made_by (called n) s = with_trees s (call n ∷ s.trees)
made_by (defined n) s = with_trees s (on_trees (define n) s.trees)

abbrev pub made_by_all : List Step → Stack → Stack
made_by_all [] s = s
made_by_all (x ∷ xs) s = made_by_all xs (made_by x s)

abbrev pub condition_steps : Condition → List Step
condition_steps (asked t) = ask t ∷ []
condition_steps (negated c) = condition_steps c ++ negate ∷ []
condition_steps (both a b) = condition_steps a ++ (condition_steps b ++ all ∷ [])
condition_steps (either a b) = condition_steps a ++ (condition_steps b ++ any ∷ [])

abbrev pub tree_steps : Tree → List Step
tree_steps (send l m) = sent l m ∷ []
tree_steps (retry n l m) = retried n l m ∷ []
tree_steps (gap t) = gap_set t ∷ []
tree_steps (repeat n b) = tree_steps b ++ repeated n ∷ []
tree_steps (choose c a b) = condition_steps c ++ (tree_steps a ++ (tree_steps b ++ chosen ∷ []))
tree_steps (until c n b) = condition_steps c ++ (tree_steps b ++ run_until n ∷ [])
tree_steps (timed h b) = tree_steps b ++ with_period h ∷ []
tree_steps nothing = none ∷ []
tree_steps (chained a b) = tree_steps a ++ (tree_steps b ++ joined ∷ [])
tree_steps (call n) = called n ∷ []
tree_steps (define n b r) = tree_steps b ++ (tree_steps r ++ defined n ∷ [])

abbrev pub top_condition : OutcomeTest → List Condition → Condition
top_condition t [] = asked t
top_condition t (c ∷ cs) = c

abbrev pub top_tree : List Tree → Tree
top_tree [] = nothing
top_tree (t ∷ ts) = t

abbrev pub empty : Stack
empty = record { conditions = []; trees = [] }

-- what steps make
abbrev pub condition_made : List Step → Condition
condition_made xs = top_condition Failed (made_by_all xs empty).conditions

abbrev pub tree_made : List Step → Tree
tree_made xs = top_tree (made_by_all xs empty).trees

-- a frame that proofs alone know; or frames one after the other, as far as they are read; and how many others it was
-- made of
pub record Outlined : Type 0 where
  pub frame : List Step
  pub row : List (List Step)
  pub level : ℕ
