-- The operations of a condition in two parts.
use Rattle.std.proofs.Common.{◌≡◌, ℕ, ◌+◌, List, ◌++◌, length, sym, ap, ap₂, ◌∙◌, append_assoc, length-append}
use Rattle.frame_tree.specs.Tree.{Condition, both, either}
use Rattle.frame_code.specs.declared.Op.{Op}
use Rattle.frame_asm.specs.Shapes.{branch_size, branch}
use Rattle.frame_asm.proofs.Lengths.{length_branch}

pub length_after : (a : Condition) (c0 c1 : List Op) (p t f : ℕ) → c1 ≡ c0 ++ branch p a t f → length c1 ≡ length c0 + branch_size a
length_after a c0 c1 p t f e = ap length e ∙ length-append c0 (branch p a t f) ∙ ap (λ n. length c0 + n) (length_branch a p t f)

pub two_parts : (a b : Condition) (c0 c1 c2 : List Op) (t f ta fa m : ℕ) → m ≡ length c0 + branch_size a → c1 ≡ c0 ++ branch (length c0) a ta fa → c2 ≡ c1 ++ branch (length c1) b t f
    → c2 ≡ c0 ++ (branch (length c0) a ta fa ++ branch (length c0 + branch_size a) b t f)
two_parts a b c0 c1 c2 t f ta fa m e e1 e2 =
    e2
    ∙ ap₂ (λ c n. c ++ branch n b t f) e1 (length_after a c0 c1 (length c0) ta fa e1)
    ∙ append_assoc c0 (branch (length c0) a ta fa) (branch (length c0 + branch_size a) b t f)

pub and_done : (test a b a1 b1 : Condition) (c0 c1 c2 : List Op) (t f m : ℕ) → test ≡ both a b → a1 ≡ a → b1 ≡ b → m ≡ length c0 + branch_size a
    → c1 ≡ c0 ++ branch (length c0) a1 m f → c2 ≡ c1 ++ branch (length c1) b1 t f → c2 ≡ c0 ++ branch (length c0) test t f
and_done test a b a1 b1 c0 c1 c2 t f m is ia ib im e1 e2 =
    two_parts a b c0 c1 c2 t f m f m im (e1 ∙ ap (λ z. c0 ++ branch (length c0) z m f) ia) (e2 ∙ ap (λ z. c1 ++ branch (length c1) z t f) ib)
    ∙ ap (λ n. c0 ++ (branch (length c0) a n f ++ branch (length c0 + branch_size a) b t f)) im
    ∙ ap (λ z. c0 ++ branch (length c0) z t f) (sym is)

pub or_done : (test a b a1 b1 : Condition) (c0 c1 c2 : List Op) (t f m : ℕ) → test ≡ either a b → a1 ≡ a → b1 ≡ b → m ≡ length c0 + branch_size a
    → c1 ≡ c0 ++ branch (length c0) a1 t m → c2 ≡ c1 ++ branch (length c1) b1 t f → c2 ≡ c0 ++ branch (length c0) test t f
or_done test a b a1 b1 c0 c1 c2 t f m is ia ib im e1 e2 =
    two_parts a b c0 c1 c2 t f t m m im (e1 ∙ ap (λ z. c0 ++ branch (length c0) z t m) ia) (e2 ∙ ap (λ z. c1 ++ branch (length c1) z t f) ib)
    ∙ ap (λ n. c0 ++ (branch (length c0) a t n ++ branch (length c0 + branch_size a) b t f)) im
    ∙ ap (λ z. c0 ++ branch (length c0) z t f) (sym is)
