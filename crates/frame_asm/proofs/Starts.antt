-- Where the routines of a tree begin, and which number each place has.
use Rattle.std.proofs.Common.{◌≡◌, ℕ, zero, suc, ◌+◌, ◌<◌, ◌≤◌, true, List, [], ◌∷◌, ◌++◌, length, get_or, Some, None, refl, sym, ap, ap₂, ◌∙◌, subst, arith, append_assoc}
use Rattle.std.specs.Prelude.{nat_lt, if◌then◌else◌}
use Rattle.std.proofs.lemmas.Bool.Decides.{nat_tests}
use Rattle.mil_message.specs.declared.outcome_test.OutcomeTest.{OutcomeTest}
use Rattle.mil_message.specs.declared.outcome_test.OutcomeTest.TheVariants.{Failed}
use Rattle.frame_tree.specs.Tree.{Condition, asked, negated, both, either, Tree, send, retry, gap, repeat, choose, until, timed, nothing, chained, call, define}
use Rattle.frame_tree.specs.Names.{Scope, meant_by}
use Rattle.frame_tree.specs.Bounds.{CallsKnown, IsDefined}
use Rattle.frame_code.specs.declared.Op.{Op}
use Rattle.frame_code.specs.declared.Op.TheVariants as op
use Rattle.frame_code.specs.Routines.{ends_from, ends, routines, begin_of, main_of, routine_at, passed, owner_at}
use Rattle.frame_asm.proofs.Lengths.{length_shape}
use Rattle.frame_asm.proofs.Runs.{HasAt}
use Rattle.frame_asm.specs.Shapes.{branch_size, branch, size, entries, shape}

-- an operation that ends no routine
abbrev IsInner : Op → Type 0
IsInner o = ((p : ℕ) (os : List Op) → ends_from p (o ∷ os) ≡ ends_from (suc p) os) × ((r : ℕ) → passed (Some o) r ≡ r)

abbrev pub AreInner : List Op → Type 0
AreInner [] = Unit {0}
AreInner (o ∷ os) = IsInner o × AreInner os

inner_both : (a b : List Op) → AreInner a → AreInner b → AreInner (a ++ b)
inner_both [] b h k = k
inner_both (o ∷ a) b h k = (h.0, inner_both a b h.1 k)

is_send : (m : ℕ) → IsInner (op.Send m)
is_send m = (λ p os. refl, λ r. refl)

is_alt : (m : ℕ) → IsInner (op.Alt m)
is_alt m = (λ p os. refl, λ r. refl)

is_gap : (m : ℕ) → IsInner (op.SetGap m)
is_gap m = (λ p os. refl, λ r. refl)

is_loop : (m : ℕ) → IsInner (op.Loop m)
is_loop m = (λ p os. refl, λ r. refl)

is_again : (m : ℕ) → IsInner (op.Again m)
is_again m = (λ p os. refl, λ r. refl)

is_leave : (m : ℕ) → IsInner (op.Leave m)
is_leave m = (λ p os. refl, λ r. refl)

is_jump : (m : ℕ) → IsInner (op.Jump m)
is_jump m = (λ p os. refl, λ r. refl)

is_test : (k : OutcomeTest) → IsInner (op.Test k)
is_test m = (λ p os. refl, λ r. refl)

is_jump_false : (m : ℕ) → IsInner (op.JumpFalse m)
is_jump_false m = (λ p os. refl, λ r. refl)

is_begin : IsInner op.Begin
is_begin = (λ p os. refl, λ r. refl)

is_pace : (m : ℕ) → IsInner (op.Pace m)
is_pace m = (λ p os. refl, λ r. refl)

is_call : (m : ℕ) → IsInner (op.Call m)
is_call m = (λ p os. refl, λ r. refl)

inner_branch : (c : Condition) (p t f : ℕ) → AreInner (branch p c t f)
inner_branch (asked k) p t f = (is_test k, (is_jump_false f, (is_jump t, tt)))
inner_branch (negated c) p t f = inner_branch c p f t
inner_branch (both a b) p t f = inner_both (branch p a (p + branch_size a) f) _ (inner_branch a p (p + branch_size a) f) (inner_branch b (p + branch_size a) t f)
inner_branch (either a b) p t f = inner_both (branch p a t (p + branch_size a)) _ (inner_branch a p t (p + branch_size a)) (inner_branch b (p + branch_size a) t f)

pub inner_shape : (rs : Scope ℕ) (t : Tree) (p m : ℕ) → CallsKnown rs t → AreInner (shape rs p m t)
inner_shape rs (send l x) p m k = (is_send m, tt)
inner_shape rs (retry n l x) p m k = (is_send m, (is_loop n, (is_test Failed, (is_jump_false (p + 6), (is_alt m, (is_jump (p + 7), (is_leave (p + 8), (is_again (p + 2), tt))))))))
inner_shape rs (gap t) p m k = (is_gap t, tt)
inner_shape rs (repeat n b) p m k = (is_loop n, inner_both (shape rs (p + 1) m b) _ (inner_shape rs b (p + 1) m k) (is_again (p + 1), tt))
inner_shape rs (choose c a b) p m k =
    let t = p + branch_size c in
    let f = t + size a + 1 in
    inner_both (branch p c t f) _ (inner_branch c p t f) (inner_both (shape rs t m a) _ (inner_shape rs a t m k.0) (is_jump (f + size b), inner_shape rs b f (m + entries a) k.1))
inner_shape rs (until c n b) p m k =
    let l = p + 1 + branch_size c in
    (is_loop n, inner_both (branch (p + 1) c l (l + 1)) _ (inner_branch c (p + 1) l (l + 1)) (is_leave (l + size b + 2), inner_both (shape rs (l + 1) m b) _ (inner_shape rs b (l + 1) m k) (is_again (p + 1), tt)))
inner_shape rs (timed h b) p m k = (is_begin, inner_both (shape rs (p + 1) m b) _ (inner_shape rs b (p + 1) m k) (is_pace h, tt))
inner_shape rs nothing p m k = tt
inner_shape rs (chained a b) p m k = inner_both (shape rs p m a) _ (inner_shape rs a p m k.0) (inner_shape rs b (p + size a) (m + entries a) k.1)
inner_shape rs (call n) p m k = (is_call (meant_by 0 rs n), tt)
inner_shape rs (define n b r) p m k = absurd k

-- such operations change nothing
past : (p q : ℕ) (a b : List Op) → AreInner a → p + length a ≡ q → ends_from p (a ++ b) ≡ ends_from q b
past p q [] b h e = let same : p ≡ q = omega (arith, e) in ap (λ z. ends_from z b) same
past p q (o ∷ a) b h e = h.0.0 p (a ++ b) ∙ past (suc p) q a b h.1 (omega (arith, e))

-- where the routines behind the first begin, and main
abbrev pub starts : ℕ → Tree → List ℕ
starts p (define n b r) = suc (p + size b) ∷ starts (suc (p + size b)) r
starts p t = []

main_starts : (rs : Scope ℕ) (t : Tree) (p m : ℕ) → CallsKnown rs t → ends_from p (shape rs p m t ++ op.Halt ∷ []) ≡ []
main_starts rs t p m k = past p (p + length (shape rs p m t)) (shape rs p m t) (op.Halt ∷ []) (inner_shape rs t p m k) refl

pub starts_of : (rs : Scope ℕ) (t : Tree) (p m : ℕ) → IsDefined rs t → ends_from p (shape rs p m t ++ op.Halt ∷ []) ≡ starts p t
starts_of rs (send l x) p m k = main_starts rs (send l x) p m k
starts_of rs (retry n l x) p m k = main_starts rs (retry n l x) p m k
starts_of rs (gap t) p m k = main_starts rs (gap t) p m k
starts_of rs (repeat n b) p m k = main_starts rs (repeat n b) p m k
starts_of rs (choose c a b) p m k = main_starts rs (choose c a b) p m k
starts_of rs (until c n b) p m k = main_starts rs (until c n b) p m k
starts_of rs (timed h b) p m k = main_starts rs (timed h b) p m k
starts_of rs nothing p m k = main_starts rs nothing p m k
starts_of rs (chained a b) p m k = main_starts rs (chained a b) p m k
starts_of rs (call n) p m k = main_starts rs (call n) p m k
starts_of rs (define n b r) p m k =
    let inner = (n, length rs) ∷ rs in
    let one : p + size b + 1 ≡ suc (p + size b) = omega arith in
    let rest = shape inner (p + size b + 1) (m + entries b) r in
    let rest' = shape inner (suc (p + size b)) (m + entries b) r in
    ap (ends_from p) (append_assoc (shape rs p m b) (op.Return ∷ rest) (op.Halt ∷ []))
    ∙ past p (p + size b) (shape rs p m b) (op.Return ∷ (rest ++ op.Halt ∷ [])) (inner_shape rs b p m k.2) (ap (λ z. p + z) (length_shape b rs p m))
    ∙ ap (λ z. suc (p + size b) ∷ ends_from (suc (p + size b)) (shape inner z (m + entries b) r ++ op.Halt ∷ [])) one
    ∙ ap (λ z. suc (p + size b) ∷ z) (starts_of inner r (suc (p + size b)) (m + entries b) k.3)

-- a tree stands at place i of the operations, its first definition the routine r
pub record Stands (os : List Op) (r i : ℕ) (t : Tree) : Type 0 where
  pub begins : begin_of os r ≡ i
  pub count : routines os ≡ r + length (starts i t)
  pub all : (k : ℕ) → get_or (ends os) (r + k) 0 ≡ get_or (starts i t) k 0

pub stands_first : (os : List Op) (t : Tree) → ends os ≡ starts 0 t → Stands os 0 0 t
stands_first os t e = record {
  begins = refl;
  count = let z : 0 + length (starts 0 t) ≡ length (starts 0 t) = omega arith in ap length e ∙ sym z;
  all = λ k. let z : 0 + k ≡ k = omega arith in ap₂ (λ xs j. get_or xs j 0) e z;
}

pub stands_next : (os : List Op) (r i j : ℕ) (n : List ℕ) (b t : Tree) → suc (i + size b) ≡ j → Stands os r i (define n b t) → Stands os (suc r) j t
stands_next os r i j n b t e s =
    let z : r ≡ r + 0 = omega arith in
    let next : Stands os (suc r) (suc (i + size b)) t = record {
      begins = ap (λ k. get_or (ends os) k 0) z ∙ s.all 0;
      count = omega (arith, s.count);
      all = λ k. let y : suc r + k ≡ r + suc k = omega arith in ap (λ v. get_or (ends os) v 0) y ∙ s.all (suc k);
    } in
    subst (λ v. Stands os (suc r) v t) e next

lt_true : (a b : ℕ) → a < b → nat_lt a b ≡ true
lt_true a b h = grind (arith, nat_tests)

-- the routine of a definition is there
pub routine_there : (os : List Op) (r i : ℕ) (n : List ℕ) (b t : Tree) → Stands os r i (define n b t) → routine_at os r ≡ Some i
routine_there os r i n b t s =
    ap₂ (λ c v. if c then Some v else None) (lt_true r (routines os) (omega (arith, s.count))) s.begins

-- main begins where no definition is left
pub main_there : (os : List Op) (r i : ℕ) (t : Tree) → starts i t ≡ [] → Stands os r i t → main_of os ≡ i
main_there os r i t none s =
    let all : routines os ≡ r = omega (arith, s.count, ap length none) in
    ap (begin_of os) all ∙ s.begins

module _ (os : List Op) where
  -- the routine that a place stands in, behind such operations
  pub owned : (p k : ℕ) (ys : List Op) → HasAt os p ys → AreInner ys → k ≤ length ys → owner_at os (p + k) ≡ owner_at os p
  owned p zero ys h n le = let s : p + 0 ≡ p = omega arith in ap (owner_at os) s
  owned p (suc k) [] h n le = absurd (omega (arith, le))
  owned p (suc k) (y ∷ ys) h n le =
      let s : p + suc k ≡ p + 1 + k = omega arith in
      let t : p + 1 ≡ suc p = omega arith in
      ap (owner_at os) s ∙ owned (p + 1) k ys h.1 n.1 (omega (arith, le)) ∙ ap (owner_at os) t ∙ ap (λ v. passed v (owner_at os p)) h.0 ∙ n.0.1 (owner_at os p)
