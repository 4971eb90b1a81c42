-- What the parts of a condition make, and those of a frame.
use Rattle.std.specs.Prelude.{ℕ, ◌+◌, List, [], ◌∷◌, ◌++◌, map}
use Rattle.frame_tree.specs.Tree.{Condition, asked, negated, both, either}
use Rattle.frame_tree.specs.Tree.{Tree, send, retry, gap, repeat, choose, until, timed, chain, call, define}
use Rattle.frame_text.specs.Outlines.{Step, condition_steps, tree_steps, condition_made, tree_made, Outlined}
use Rattle.frame_text.specs.declared.outlines.Ask.{Ask}
use Rattle.frame_text.specs.declared.outlines.Ask.TheVariants as ask
use Rattle.frame_text.specs.declared.outlines.Part.{Part}
use Rattle.frame_text.specs.declared.outlines.Part.TheVariants as part

-- the condition that is known
abbrev pub condition_known : List Step × ℕ → Condition
condition_known v = condition_made v.0

abbrev pub ask_made : Condition → ℕ → List Step × ℕ
ask_made c level = (condition_steps c, level)

abbrev pub asked_by : Ask → List Step × ℕ
asked_by (ask.Test t) = ask_made (asked t) 0
asked_by (ask.Not c) = ask_made (negated (condition_known c.value)) (c.value.1 + 1)
asked_by (ask.All a b) = ask_made (both (condition_known a.value) (condition_known b.value)) (a.value.1 + b.value.1 + 1)
asked_by (ask.Any a b) =
    ask_made (either (condition_known a.value) (condition_known b.value)) (a.value.1 + b.value.1 + 1)

-- the frame that is known
abbrev pub tree_known : Outlined → Tree
tree_known o = tree_made o.frame

-- the frames that are known, one after the other
abbrev pub row_known : Outlined → List Tree
row_known o = map tree_made o.row

abbrev pub frame_made : Tree → ℕ → Outlined
frame_made t level = record { frame = tree_steps t; row = []; level = level }

abbrev pub row_made : List (List Step) → ℕ → Outlined
row_made row level = record { frame = []; row = row; level = level }

abbrev pub outlined : Part → Outlined
outlined (part.Send l m) = frame_made (send l m.value) 0
outlined (part.Retry n l m) = frame_made (retry n l m.value) 0
outlined (part.Gap t) = frame_made (gap t) 0
outlined (part.Repeat n b) = frame_made (repeat n (tree_known b.value)) (b.value.level + 1)
outlined (part.If c a b) =
    frame_made (choose (condition_known c.value) (tree_known a.value) (tree_known b.value))
    (a.value.level + b.value.level + 1)
outlined (part.Until c n b) = frame_made (until (condition_known c.value) n (tree_known b.value)) (b.value.level + 1)
outlined (part.Timed h b) = frame_made (timed h (tree_known b.value)) (b.value.level + 1)
outlined (part.Call n) = frame_made (call n.value) 0
outlined (part.Define n b r) =
    frame_made (define n.value (tree_known b.value) (tree_known r.value)) (b.value.level + r.value.level + 1)
outlined part.NoFrames = row_made [] 0
outlined (part.More r b) = row_made (r.value.row ++ b.value.frame ∷ []) (r.value.level + b.value.level + 1)
outlined (part.Whole r) = frame_made (chain (row_known r.value)) (r.value.level + 1)
