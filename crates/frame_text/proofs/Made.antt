-- What steps make is what they were made for.
use Rattle.std.proofs.Common.{◌≡◌, ℕ, List, [], ◌∷◌, ◌++◌, refl, ap, ◌∙◌}
use Rattle.mil_message.specs.declared.outcome_test.OutcomeTest.TheVariants.{Failed}
use Rattle.frame_tree.specs.Tree.{Condition, asked, negated, both, either}
use Rattle.frame_tree.specs.Tree.{Tree, send, retry, gap, repeat, choose, until, timed, nothing, chained, call, define}
use Rattle.frame_text.specs.Outlines.{Step, negate, all, any, repeated, chosen, run_until, with_period, joined, defined, Stack, made_by, made_by_all, condition_steps, tree_steps, condition_made, tree_made, top_condition, top_tree, empty, Outlined}
use Rattle.frame_text.specs.OutlineParts.{ask_made, frame_made, condition_known, tree_known}

steps_both : (xs ys : List Step) (s : Stack) → made_by_all (xs ++ ys) s ≡ made_by_all ys (made_by_all xs s)
steps_both [] ys s = refl
steps_both (x ∷ xs) ys s = steps_both xs ys (made_by x s)

abbrev asks : Condition → Stack → Stack
asks c s = record { conditions = c ∷ s.conditions; trees = s.trees }

abbrev holds : Tree → Stack → Stack
holds t s = record { conditions = s.conditions; trees = t ∷ s.trees }

-- steps behind others that have made this
behind : (xs ys : List Step) (s u : Stack) → made_by_all xs s ≡ u → made_by_all (xs ++ ys) s ≡ made_by_all ys u
behind xs ys s u e = steps_both xs ys s ∙ ap (made_by_all ys) e

condition_done : (c : Condition) (s : Stack) → made_by_all (condition_steps c) s ≡ asks c s
condition_done (asked t) s = refl
condition_done (negated c) s = behind (condition_steps c) (negate ∷ []) s _ (condition_done c s)
condition_done (both a b) s =
    behind (condition_steps a) (condition_steps b ++ all ∷ []) s _ (condition_done a s)
    ∙ behind (condition_steps b) (all ∷ []) (asks a s) _ (condition_done b (asks a s))
condition_done (either a b) s =
    behind (condition_steps a) (condition_steps b ++ any ∷ []) s _ (condition_done a s)
    ∙ behind (condition_steps b) (any ∷ []) (asks a s) _ (condition_done b (asks a s))

tree_done : (t : Tree) (s : Stack) → made_by_all (tree_steps t) s ≡ holds t s
tree_done (send l m) s = refl
tree_done (retry n l m) s = refl
tree_done (gap t) s = refl
tree_done (repeat n b) s = behind (tree_steps b) (repeated n ∷ []) s _ (tree_done b s)
tree_done (choose c a b) s =
    behind (condition_steps c) (tree_steps a ++ (tree_steps b ++ chosen ∷ [])) s _ (condition_done c s)
    ∙ behind (tree_steps a) (tree_steps b ++ chosen ∷ []) (asks c s) _ (tree_done a (asks c s))
    ∙ behind (tree_steps b) (chosen ∷ []) (holds a (asks c s)) _ (tree_done b (holds a (asks c s)))
tree_done (until c n b) s =
    behind (condition_steps c) (tree_steps b ++ run_until n ∷ []) s _ (condition_done c s)
    ∙ behind (tree_steps b) (run_until n ∷ []) (asks c s) _ (tree_done b (asks c s))
tree_done (timed h b) s = behind (tree_steps b) (with_period h ∷ []) s _ (tree_done b s)
tree_done nothing s = refl
tree_done (chained a b) s =
    behind (tree_steps a) (tree_steps b ++ joined ∷ []) s _ (tree_done a s)
    ∙ behind (tree_steps b) (joined ∷ []) (holds a s) _ (tree_done b (holds a s))
tree_done (call n) s = refl
tree_done (define n b r) s =
    behind (tree_steps b) (tree_steps r ++ defined n ∷ []) s _ (tree_done b s)
    ∙ behind (tree_steps r) (defined n ∷ []) (holds b s) _ (tree_done r (holds b s))

pub condition_again : (c : Condition) → condition_made (condition_steps c) ≡ c
condition_again c = ap (λ (s : Stack). top_condition Failed s.conditions) (condition_done c empty)

pub tree_again : (t : Tree) → tree_made (tree_steps t) ≡ t
tree_again t = ap (λ (s : Stack). top_tree s.trees) (tree_done t empty)

pub condition_is : (v : List Step × ℕ) (c : Condition) (level : ℕ) → v ≡ ask_made c level → condition_known v ≡ c
condition_is v c level e = ap (λ (u : List Step × ℕ). condition_known u) e ∙ condition_again c

pub tree_is : (o : Outlined) (t : Tree) (level : ℕ) → o ≡ frame_made t level → tree_known o ≡ t
tree_is o t level e = ap (λ (u : Outlined). tree_known u) e ∙ tree_again t
