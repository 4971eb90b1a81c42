-- The code of a sound tree is an image.
use Rattle.std.proofs.Common.{◌≡◌, ℕ, ◌+◌, ◌<◌, ◌≤◌, List, [], ◌∷◌, ◌++◌, length, ap, ap₂, ◌∙◌, refl, Bool, true, false, arith, rules, tests, length-append}
use Rattle.std.specs.Prelude.{IsTrue, if◌then◌else◌}
use Rattle.mil_word.specs.declared.Line.{Line}
use Rattle.mil_message.specs.declared.messages.Message.{Message}
use Rattle.frame_tree.specs.Tree.{Condition, asked, negated, both, either, Tree, send, retry, gap, repeat, choose, until, timed, nothing, chained, call, define}
use Rattle.frame_tree.specs.Names.{Scope, same_bytes, meant_by}
use Rattle.frame_tree.specs.Bounds.{IsInRange, CallsKnown, IsDefined}
use Rattle.frame_code.specs.declared.Op.{Op}
use Rattle.frame_code.specs.declared.Op.TheVariants as op
use Rattle.frame_code.specs.Table.{Code}
use Rattle.frame_code.specs.Ranges.{is_gap, is_count, is_index, is_routine, is_period, AreInRange, IsImage}
use Rattle.frame_asm.specs.Shapes.{branch_size, branch, size, entries, tree_messages, shape, code_of_tree, AreRoutines}
use Rattle.frame_asm.proofs.Lengths.{length_shape, length_messages_of}

abbrev pub code : List Op → List (Line × Message) → Code
code o m = record { operations = o; messages = m }

index_in : (i : ℕ) → i < 65536 → IsTrue (is_index i)
index_in i h = search (rules, tests)

gap_in : (t : ℕ) → 40 ≤ t → t ≤ 65535 → IsTrue (is_gap t)
gap_in t h k = grind (arith, rules, tests)

count_in : (n : ℕ) → 1 ≤ n → n ≤ 10000 → IsTrue (is_count n)
count_in n h k = search (rules, tests)

period_in : (h : ℕ) → 1 ≤ h → h ≤ 65535 → IsTrue (is_period h)
period_in h l u = grind (arith, rules, tests)

both_in : (a b : List Op) → AreInRange a → AreInRange b → AreInRange (a ++ b)
both_in [] b h k = k
both_in (o ∷ a) b h k = (h.0, both_in a b h.1 k)

branch_in : (c : Condition) (p t f : ℕ) → p + branch_size c ≤ 65535 → t < 65536 → f < 65536 → AreInRange (branch p c t f)
branch_in (asked k) p t f h ht hf = (search rules, (index_in f hf, (index_in t ht, tt)))
branch_in (negated c) p t f h ht hf = branch_in c p f t h hf ht
branch_in (both a b) p t f h ht hf = both_in (branch p a (p + branch_size a) f) _ (branch_in a p _ f (omega arith) (omega arith) hf) (branch_in b _ t f (omega arith) ht hf)
branch_in (either a b) p t f h ht hf = both_in (branch p a t (p + branch_size a)) _ (branch_in a p t _ (omega arith) ht (omega arith)) (branch_in b _ t f (omega arith) ht hf)

-- each name is that of a routine that there may be
pub routine_small : (rs : Scope ℕ) (n : List ℕ) → AreRoutines rs → meant_by 0 rs n < 32
routine_small [] n z = omega arith
routine_small (r ∷ rs) n z = chosen (same_bytes r.0 n) r.1 (meant_by 0 rs n) z.0 (routine_small rs n z.1)
  where
    chosen : (b : Bool) (k j : ℕ) → k < 32 → j < 32 → (if b then k else j) < 32
    chosen true k j h g = h
    chosen false k j h g = g

routine_in : (rs : Scope ℕ) (n : List ℕ) → AreRoutines rs → IsTrue (is_routine (meant_by 0 rs n))
routine_in rs n z = let h = routine_small rs n z in search (rules, tests)

shape_in : (rs : Scope ℕ) (t : Tree) (p m : ℕ) → AreRoutines rs → CallsKnown rs t → IsInRange t → p + size t ≤ 65535 → m + entries t ≤ 65535 → AreInRange (shape rs p m t)
shape_in rs (send l x) p m z c s h k = (index_in m (omega arith), tt)
shape_in rs (retry n l x) p m z c s h k =
    (index_in m (omega arith), (count_in n s.0 (omega arith), (search rules, (index_in (p + 6) (omega arith), (index_in m (omega arith), (index_in (p + 7) (omega arith), (index_in (p + 8) (omega arith), (index_in (p + 2) (omega arith), tt))))))))
shape_in rs (gap t) p m z c s h k = (gap_in t s.0 s.1, tt)
shape_in rs (repeat n b) p m z c s h k = (count_in n s.0 s.1, both_in (shape rs (p + 1) m b) _ (shape_in rs b (p + 1) m z c s.2 (omega arith) k) (index_in (p + 1) (omega arith), tt))
shape_in rs (choose c a b) p m z kn s h k =
    let t = p + branch_size c in
    let f = t + size a + 1 in
    both_in (branch p c t f) _ (branch_in c p t f (omega arith) (omega arith) (omega arith))
    (both_in (shape rs t m a) _ (shape_in rs a t m z kn.0 s.1 (omega arith) (omega arith)) (index_in (f + size b) (omega arith), shape_in rs b f (m + entries a) z kn.1 s.2 (omega arith) (omega arith)))
shape_in rs (until c n b) p m z kn s h k =
    let l = p + 1 + branch_size c in (
      count_in n s.1 s.2,
      both_in (branch (p + 1) c l (l + 1)) _ (branch_in c (p + 1) l (l + 1) (omega arith) (omega arith) (omega arith))
          (index_in (l + size b + 2) (omega arith), both_in (shape rs (l + 1) m b) _ (shape_in rs b (l + 1) m z kn s.3 (omega arith) k) (index_in (p + 1) (omega arith), tt)),
    )
shape_in rs (timed t b) p m z c s h k = (search rules, both_in (shape rs (p + 1) m b) _ (shape_in rs b (p + 1) m z c s.2 (omega arith) k) (period_in t s.0 s.1, tt))
shape_in rs nothing p m z c s h k = tt
shape_in rs (chained a b) p m z c s h k = both_in (shape rs p m a) _ (shape_in rs a p m z c.0 s.0 (omega arith) (omega arith)) (shape_in rs b _ _ z c.1 s.1 (omega arith) (omega arith))
shape_in rs (call n) p m z c s h k = (routine_in rs n z, tt)
shape_in rs (define n b r) p m z c s h k = absurd c

-- definitions at the outside
pub all_in : (rs : Scope ℕ) (t : Tree) (p m : ℕ) → AreRoutines rs → IsDefined rs t → IsInRange t → p + size t ≤ 65535 → m + entries t ≤ 65535 → AreInRange (shape rs p m t)
all_in rs (send l x) p m z c s h k = shape_in rs (send l x) p m z c s h k
all_in rs (retry n l x) p m z c s h k = shape_in rs (retry n l x) p m z c s h k
all_in rs (gap t) p m z c s h k = shape_in rs (gap t) p m z c s h k
all_in rs (repeat n b) p m z c s h k = shape_in rs (repeat n b) p m z c s h k
all_in rs (choose v a b) p m z c s h k = shape_in rs (choose v a b) p m z c s h k
all_in rs (until v n b) p m z c s h k = shape_in rs (until v n b) p m z c s h k
all_in rs (timed t b) p m z c s h k = shape_in rs (timed t b) p m z c s h k
all_in rs nothing p m z c s h k = shape_in rs nothing p m z c s h k
all_in rs (chained a b) p m z c s h k = shape_in rs (chained a b) p m z c s h k
all_in rs (call n) p m z c s h k = shape_in rs (call n) p m z c s h k
all_in rs (define n b r) p m z c s h k =
    both_in (shape rs p m b) _ (shape_in rs b p m z c.2 s.0 (omega (arith, h)) (omega (arith, k)))
    (refl, all_in ((n, length rs) ∷ rs) r (p + size b + 1) (m + entries b) (c.0, z) c.3 s.1 (omega (arith, h)) (omega (arith, k)))

pub code_is_image : (t : Tree) → IsDefined [] t → IsInRange t → size t ≤ 4095 → entries t ≤ 1024 → IsImage (code_of_tree t)
code_is_image t c s h k = record {
  operations = omega (arith, length-append (shape [] 0 0 t) (op.Halt ∷ []), length_shape t [] 0 0);
  messages = omega (arith, length_messages_of t);
  operands = both_in (shape [] 0 0 t) (op.Halt ∷ []) (all_in [] t 0 0 tt c s (omega arith) (omega arith)) (search rules, tt);
}

pub assembled : (t : Tree) (sc : Scope ℕ) (o0 o1 o2 : List Op) (m0 m1 : List (Line × Message)) → sc ≡ [] → o0 ≡ [] → m0 ≡ [] → o1 ≡ o0 ++ shape sc (length o0) (length m0) t → m1 ≡ m0 ++ tree_messages t → o2 ≡ o1 ++ op.Halt ∷ []
    → code o2 m1 ≡ code_of_tree t
assembled t sc o0 o1 o2 m0 m1 es eo em e1 e2 e3 =
    let f1 : o1 ≡ shape [] 0 0 t = e1 ∙ ap₂ (λ x y. x ++ shape sc (length x) (length y) t) eo em ∙ ap (λ z. shape z 0 0 t) es in
    let f2 : m1 ≡ tree_messages t = e2 ∙ ap (λ x. x ++ tree_messages t) em in
    ap₂ code (e3 ∙ ap (λ x. x ++ op.Halt ∷ []) f1) f2

-- how many operations and messages the code has
pub operations_of : (t : Tree) → length (code_of_tree t).operations ≡ size t + 1
operations_of t = omega (arith, length-append (shape [] 0 0 t) (op.Halt ∷ []), length_shape t [] 0 0)

pub messages_in : (t : Tree) → length (code_of_tree t).messages ≡ entries t
messages_in t = length_messages_of t
