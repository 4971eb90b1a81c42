-- How many operations and messages a frame has.
use Rattle.std.proofs.Common.{◌≡◌, ℕ, ◌+◌, [], ◌∷◌, ◌++◌, length, refl, ap₂, ◌∙◌, arith, length-append}
use Rattle.frame_tree.specs.Tree.{Condition, asked, negated, both, either, Tree, send, retry, gap, repeat, choose, until, timed, nothing, chained, call, define}
use Rattle.frame_tree.specs.Names.{Scope}
use Rattle.frame_code.specs.declared.Op.TheVariants as op
use Rattle.frame_asm.specs.Shapes.{branch_size, branch, size, tree_messages, entries, shape}

pub length_branch : (c : Condition) (p t f : ℕ) → length (branch p c t f) ≡ branch_size c
length_branch (asked k) p t f = refl
length_branch (negated c) p t f = length_branch c p f t
length_branch (both a b) p t f = length-append (branch p a (p + branch_size a) f) _ ∙ ap₂ (λ m n. m + n) (length_branch a p _ f) (length_branch b _ t f)
length_branch (either a b) p t f = length-append (branch p a t (p + branch_size a)) _ ∙ ap₂ (λ m n. m + n) (length_branch a p t _) (length_branch b _ t f)

pub length_shape : (t : Tree) (rs : Scope ℕ) (p m : ℕ) → length (shape rs p m t) ≡ size t
length_shape (send l x) rs p m = refl
length_shape (retry n l x) rs p m = refl
length_shape (gap t) rs p m = refl
length_shape (repeat n b) rs p m =
    omega (arith, length-append (shape rs (p + 1) m b) (op.Again (p + 1) ∷ []), length_shape b rs (p + 1) m)
length_shape (choose c a b) rs p m =
    let t = p + branch_size c in
    let f = t + size a + 1 in
    let rest = op.Jump (f + size b) ∷ shape rs f (m + entries a) b in
    omega (arith, length-append (branch p c t f) (shape rs t m a ++ rest), length-append (shape rs t m a) rest, length_branch c p t f, length_shape a rs t m, length_shape b rs f (m + entries a))
length_shape (until c n b) rs p m =
    let l = p + 1 + branch_size c in
    let body = shape rs (l + 1) m b in
    let rest = op.Leave (l + size b + 2) ∷ (body ++ op.Again (p + 1) ∷ []) in
    omega (arith, length-append (branch (p + 1) c l (l + 1)) rest, length-append body (op.Again (p + 1) ∷ []), length_branch c (p + 1) l (l + 1), length_shape b rs (l + 1) m)
length_shape (timed h b) rs p m =
    omega (arith, length-append (shape rs (p + 1) m b) (op.Pace h ∷ []), length_shape b rs (p + 1) m)
length_shape nothing rs p m = refl
length_shape (call n) rs p m = refl
length_shape (define n b r) rs p m =
    let rest = shape ((n, length rs) ∷ rs) (p + size b + 1) (m + entries b) r in
    omega (arith, length-append (shape rs p m b) (op.Return ∷ rest), length_shape b rs p m, length_shape r ((n, length rs) ∷ rs) (p + size b + 1) (m + entries b))
length_shape (chained a b) rs p m =
    omega (arith, length-append (shape rs p m a) (shape rs (p + size a) (m + entries a) b), length_shape a rs p m, length_shape b rs (p + size a) (m + entries a))

pub length_messages_of : (t : Tree) → length (tree_messages t) ≡ entries t
length_messages_of (send l x) = refl
length_messages_of (retry n l x) = refl
length_messages_of (gap t) = refl
length_messages_of (repeat n b) = length_messages_of b
length_messages_of (choose c a b) = omega (arith, length-append (tree_messages a) (tree_messages b), length_messages_of a, length_messages_of b)
length_messages_of (until c n b) = length_messages_of b
length_messages_of (timed h b) = length_messages_of b
length_messages_of nothing = refl
length_messages_of (call n) = refl
length_messages_of (define n b r) = omega (arith, length-append (tree_messages b) (tree_messages r), length_messages_of b, length_messages_of r)
length_messages_of (chained a b) = omega (arith, length-append (tree_messages a) (tree_messages b), length_messages_of a, length_messages_of b)
