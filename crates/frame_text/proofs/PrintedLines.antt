-- Printed frames one by one.
use Rattle.std.proofs.Common.{◌≡◌, ℕ, zero, suc, ◌+◌, List, ◌++◌, Bool, true, false, refl, sym, ap, ◌∙◌, append_assoc, add-one}
use Rattle.std.specs.Prelude.{codes, ◌&&◌}
use Rattle.std.proofs.lemmas.List.{append-nil}
use Rattle.frame_tree.specs.Tree.{Condition, Tree, nothing, chained, choose}
use Rattle.frame_text.specs.PrintedConditions.{condition_text}
use Rattle.frame_text.specs.Printing.{indent, is_empty, block_text, else_text, lines}

indent_suc : (n : ℕ) → indent n ++ codes "  " ≡ indent (suc n)
indent_suc zero = refl
indent_suc (suc n) = ap (λ xs. codes "  " ++ xs) (indent_suc n)

pub indent_more : (n : ℕ) (before now more : List ℕ) → now ≡ before ++ indent n → more ≡ now ++ codes "  " → more ≡ before ++ indent (n + 1)
indent_more n before now more e h =
    h ∙ ap (λ xs. xs ++ codes "  ") e ∙ append_assoc before (indent n) (codes "  ") ∙ ap (λ xs. before ++ xs) (indent_suc n ∙ ap indent (sym (add-one n)))

pub empty_more : (t a b : Tree) (whole : Bool) → t ≡ chained a b → true ≡ is_empty a → is_empty t ≡ whole → is_empty b ≡ whole
empty_more t a b whole e h i = ap (λ x. x && is_empty b) h ∙ sym (ap is_empty e) ∙ i

pub empty_fails : (t a b : Tree) (whole : Bool) → t ≡ chained a b → false ≡ is_empty a → is_empty t ≡ whole → false ≡ whole
empty_fails t a b whole e h i = ap (λ x. x && is_empty b) h ∙ sym (ap is_empty e) ∙ i

pub empty_done : (t : Tree) (whole : Bool) → t ≡ nothing → is_empty t ≡ whole → true ≡ whole
empty_done t whole e i = sym (ap is_empty e) ∙ i

pub lines_more : (depth : ℕ) (t a b : Tree) (now more whole : List ℕ) → t ≡ chained a b → more ≡ now ++ lines depth a → now ++ lines depth t ≡ whole → more ++ lines depth b ≡ whole
unfolding lines
lines_more depth t a b now more whole e h i =
    ap (λ xs. xs ++ lines depth b) h ∙ append_assoc now (lines depth a) (lines depth b) ∙ sym (ap (λ u. now ++ lines depth u) e) ∙ i

pub lines_done : (depth : ℕ) (t : Tree) (now whole : List ℕ) → t ≡ nothing → now ++ lines depth t ≡ whole → now ≡ whole
unfolding lines
lines_done depth t now whole e i = sym (append-nil now) ∙ sym (ap (λ u. now ++ lines depth u) e) ∙ i

-- one piece more in front of what was written last
piece : (before a now rest end : List ℕ) → now ≡ before ++ a → end ≡ now ++ rest → end ≡ before ++ (a ++ rest)
piece before a now rest end e h = h ∙ ap (λ xs. xs ++ rest) e ∙ append_assoc before a rest

-- an if, piece by piece
pub if_line : (depth : ℕ) (t : Tree) (c : Condition) (a b : Tree) (before tested closed end : List ℕ) → t ≡ choose c a b
    → tested ≡ before ++ (indent depth ++ (codes "if " ++ (condition_text c ++ codes " ")))
    → closed ≡ tested ++ block_text depth (lines (depth + 1) a) → end ≡ closed ++ (else_text depth (is_empty b) (lines (depth + 1) b) ++ codes "\n")
    → end ≡ before ++ lines depth t
unfolding lines
if_line depth t c a b before tested closed end is e1 e2 e3 =
    let block = block_text depth (lines (depth + 1) a) in
    let behind = else_text depth (is_empty b) (lines (depth + 1) b) ++ codes "\n" in
    let test = codes "if " ++ (condition_text c ++ codes " ") in
    piece before (indent depth ++ test) tested (block ++ behind) end e1 (piece tested block closed behind end e2 e3)
    ∙ ap (λ xs. before ++ xs)
    (append_assoc (indent depth) test (block ++ behind)
    ∙ ap (λ xs. indent depth ++ xs)
    (append_assoc (codes "if ") (condition_text c ++ codes " ") (block ++ behind)
    ∙ ap (λ xs. codes "if " ++ xs) (append_assoc (condition_text c) (codes " ") (block ++ behind))))
    ∙ ap (λ u. before ++ lines depth u) (sym is)
