-- A frame as plain data (own choice): the same tree under every allocator.
use Rattle.std.specs.Prelude.{ℕ, List, [], ◌∷◌}
use Rattle.mil_word.specs.declared.Line.{Line}
use Rattle.mil_message.specs.declared.messages.Message.{Message}
use Rattle.mil_message.specs.declared.outcome_test.OutcomeTest.{OutcomeTest}
use Rattle.frame_tree.specs.declared.Cond.{Cond}
use Rattle.frame_tree.specs.declared.Cond.TheVariants.{Test, Not', And', Or'}
use Rattle.frame_tree.specs.declared.Frame.{Frame, fold-Frame}
use Rattle.frame_tree.specs.declared.Frame.TheOpen.{Frame-F}

-- what is asked of the last outcome
pub data Condition : Type 0 where
  asked : OutcomeTest → Condition
  negated : Condition → Condition
  both : Condition → Condition → Condition
  either : Condition → Condition → Condition

-- frames one after the other are chained: one and the chain of those after it, ended by nothing; a definition is its
-- name, its body, and the tree in which the name stands for it; a frame with a period has it in hundreds of µs
pub data Tree : Type 0 where
  send : Line → Message → Tree
  retry : ℕ → Line → Message → Tree
  gap : ℕ → Tree
  repeat : ℕ → Tree → Tree
  choose : Condition → Tree → Tree → Tree
  until : Condition → ℕ → Tree → Tree
  timed : ℕ → Tree → Tree
  nothing : Tree
  chained : Tree → Tree → Tree
  call : List ℕ → Tree
  define : List ℕ → Tree → Tree → Tree

abbrev pub chain : List Tree → Tree
chain [] = nothing
chain (t ∷ ts) = chained t (chain ts)

-- a condition as plain data
abbrev pub condition_in : {A : Type 0} → Cond A → Condition
condition_in (Test t) = asked t
condition_in (Not' p c) = negated (condition_in c)
condition_in (And' p a q b) = both (condition_in a) (condition_in b)
condition_in (Or' p a q b) = either (condition_in a) (condition_in b)

-- one level of a frame, with each frame in it already seen as plain data
abbrev pub tree_step : {A : Type 0} → Frame-F A Tree → Tree
tree_step (Frame-F.Send l m) = send l m
tree_step (Frame-F.Retry n l m) = retry n l m
tree_step (Frame-F.Gap t) = gap t
tree_step (Frame-F.Repeat n b) = repeat n b.value
tree_step (Frame-F.If c a b) = choose (condition_in c) a.value b.value
tree_step (Frame-F.Until c n b) = until (condition_in c) n b.value
tree_step (Frame-F.Timed h b) = timed h b.value
tree_step (Frame-F.Seq v) = chain v.items
tree_step (Frame-F.Call n) = call n
tree_step (Frame-F.Define n b r) = define n b.value r.value

-- a frame as plain data
abbrev pub tree_of : {A : Type 0} → Frame A → Tree
tree_of {A} = fold-Frame A Tree tree_step
