use Rattle.std.proofs.Common.{◌≡◌, ◌≤◌, ◌++◌, ◌∷◌, [], length, take, ℕ, List, sym, arith, ◌∙◌}
use Rattle.std.proofs.lemmas.List.{take_at, take_all}
use Rattle.std.proofs.Common.{length-append}
use Rattle.std.proofs.lemmas.Bool.Decides.{nat_tests}
use Rattle.frame_text.proofs.words.keep.Goals as goal

room : (xs : List ℕ) (v : ℕ) → length xs ≤ 32 → xs ++ v ∷ [] ≡ take 33 (xs ++ v ∷ [])
room xs v h = sym (take_all 33 (xs ++ v ∷ []) (omega (arith, length-append xs (v ∷ []))))

pub returns-then-not-is_full : goal.returns-then-not-is_full
returns-then-not-is_full c = c.push.ensures.items ∙ room c.args.found.now.items c.args.value (grind (arith, nat_tests))

pub returns-else-not-is_full : goal.returns-else-not-is_full
returns-else-not-is_full c = sym (take_at c.args.found.now.items (c.args.value ∷ []) 33 (grind (arith, nat_tests)))
