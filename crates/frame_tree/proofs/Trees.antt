-- A frame, level by level.
use Rattle.std.proofs.Common.{◌≡◌, ℕ, ◌+◌, ◌<◌, ◌≤◌, ◌↔◌, min, max, IsTrue, true, false, arith, subst, length, get_or, List, [], ◌∷◌, ◌++◌, map, take, drop, refl, sym, ap, ap₂, ◌∙◌, rules, Vec, Box, add-one}
use Rattle.std.proofs.lemmas.List.{take_more, drop_all, map-append}
use Rattle.std.proofs.Math.Seq.{drop-cons}
use Rattle.frame_tree.specs.Tree.{Tree, chain, condition_in, tree_of, repeat, choose, until, nothing, chained, define}
use Rattle.frame_tree.specs.declared.Cond.{Cond}
use Rattle.frame_tree.specs.Names.{Scope}
use Rattle.frame_tree.specs.Bounds.{depth_in, messages_in, IsInRange, CallsKnown, IsDefined}
use Rattle.frame_tree.specs.declared.Frame.{Frame, Repeat, If, Until, Seq, Define, the_lemmas}

pub tree_seq : {A : Type 0} → (v : Vec (Frame A) A) → tree_of (Seq v) ≡ chain (map tree_of v.items)
tree_seq v = search (rules, the_lemmas)

pub tree_repeat : {A : Type 0} (n : ℕ) (b : Box (Frame A) A) → tree_of (Repeat n b) ≡ repeat n (tree_of b.value)
tree_repeat n b = search (rules, the_lemmas)

pub tree_if : {A : Type 0} (c : Cond A) (a b : Box (Frame A) A) → tree_of (If c a b) ≡ choose (condition_in c) (tree_of a.value) (tree_of b.value)
tree_if c a b = search (rules, the_lemmas)

pub tree_until : {A : Type 0} (c : Cond A) (n : ℕ) (b : Box (Frame A) A) → tree_of (Until c n b) ≡ until (condition_in c) n (tree_of b.value)
tree_until c n b = search (rules, the_lemmas)

pub tree_define : {A : Type 0} (n : List ℕ) (b r : Box (Frame A) A) → tree_of (Define n b r) ≡ define n (tree_of b.value) (tree_of r.value)
tree_define n b r = search (rules, the_lemmas)

-- one more copy
pub one_more : {A B : Type 0} → (done : List (Frame B)) (all : List (Frame A)) (i : ℕ) (y : Frame B) (x : Frame A) → i < length all → x ≡ get_or all i x → map tree_of done ≡ map tree_of (take i all) → tree_of y ≡ tree_of x → map tree_of (done ++ y ∷ []) ≡ map tree_of (take (i + 1) all)
one_more done all i y x h is e s =
    map-append tree_of done (y ∷ [])
    ∙ ap₂ (λ a t. a ++ t ∷ []) e s
    ∙ sym (map-append tree_of (take i all) (x ∷ []))
    ∙ ap (λ z. map tree_of (take i all ++ z ∷ [])) is
    ∙ sym (ap (map tree_of) (take_more all i x h))

-- the frames from a place on, as a tree
abbrev pub left_from : {A : Type 0} → ℕ → List (Frame A) → Tree
left_from i all = chain (map tree_of (drop i all))

pub left_first : {A : Type 0} → (all : List (Frame A)) (i : ℕ) (x : Frame A) → i < length all → x ≡ get_or all i x → left_from i all ≡ chained (tree_of x) (left_from (i + 1) all)
left_first all i x h is =
    ap (λ xs. chain (map tree_of xs)) (drop-cons all i x h)
    ∙ ap₂ (λ y j. chained (tree_of y) (left_from j all)) (sym is) (sym (add-one i))

pub left_none : {A : Type 0} → (all : List (Frame A)) (i : ℕ) → length all ≤ i → left_from i all ≡ nothing
left_none all i h = ap (λ xs. chain (map tree_of xs)) (drop_all i all h)

pub seq_tree : {A : Type 0} → (self : Frame A) (v : Vec (Frame A) A) (all : List (Frame A)) → self ≡ Seq v → all ≡ v.items → left_from 0 all ≡ tree_of self
seq_tree self v all is e = ap (λ xs. chain (map tree_of xs)) e ∙ sym (tree_seq v) ∙ sym (ap tree_of is)

pub depth_more : (ds : Scope ℕ) (t a b : Tree) (so_far one new d : ℕ) → t ≡ chained a b → one ≡ min 17 (depth_in ds a) → new ≡ max one so_far → min 17 (max so_far (depth_in ds t)) ≡ d → min 17 (max new (depth_in ds b)) ≡ d
depth_more ds t a b so_far one new d e h n i = omega (arith, ap (depth_in ds) e, h, n, i)

pub depth_done : (ds : Scope ℕ) (t u : Tree) (so_far : ℕ) → t ≡ nothing → so_far ≤ 17 → min 17 (max so_far (depth_in ds t)) ≡ min 17 (depth_in ds u) → so_far ≡ min 17 (depth_in ds u)
depth_done ds t u so_far e s i = omega (arith, ap (depth_in ds) e, i)

pub messages_more : (ds : Scope ℕ) (t a b : Tree) (so_far one new d : ℕ) → t ≡ chained a b → one ≡ min 1000001 (messages_in ds a) → new ≡ min (so_far + one) 1000001 → min 1000001 (so_far + messages_in ds t) ≡ d → min 1000001 (new + messages_in ds b) ≡ d
messages_more ds t a b so_far one new d e h n i = omega (arith, ap (messages_in ds) e, h, n, i)

pub messages_done : (ds : Scope ℕ) (t u : Tree) (so_far : ℕ) → t ≡ nothing → so_far ≤ 1000001 → min 1000001 (so_far + messages_in ds t) ≡ min 1000001 (messages_in ds u) → so_far ≡ min 1000001 (messages_in ds u)
messages_done ds t u so_far e s i = omega (arith, ap (messages_in ds) e, i)

-- a fact of trees that a chain has where its parts have it
pub record IsFact (F : Tree → Type 0) : Type 0 where
  pub none : F nothing
  pub joined : (a b : Tree) → F a → F b → F (chained a b)
  pub first : (a b : Tree) → F (chained a b) → F a
  pub others : (a b : Tree) → F (chained a b) → F b

pub in_range_fact : IsFact IsInRange
in_range_fact = record { none = tt; joined = λ a b x y. (x, y); first = λ a b x. x.0; others = λ a b x. x.1 }

pub calls_fact : (ds : Scope ℕ) → IsFact (CallsKnown ds)
calls_fact ds = record { none = tt; joined = λ a b x y. (x, y); first = λ a b x. x.0; others = λ a b x. x.1 }

module _ (F : Tree → Type 0) (fact : IsFact F) where
  pub fact_more : (t a b : Tree) (P : Type 0) → t ≡ chained a b → F a → F t ↔ P → F b ↔ P
  fact_more t a b P e h i = (λ r. i.0 (subst F (sym e) (fact.joined a b h r)), λ p. fact.others a b (subst F e (i.1 p)))

  pub fact_fails : (t a b u : Tree) → t ≡ chained a b → (F a → ⊥) → F t ↔ F u → IsTrue false ↔ F u
  fact_fails t a b u e h i = (λ x. absurd (cc), λ r. absurd (h (fact.first a b (subst F e (i.1 r)))))

  pub fact_done : (t u : Tree) → t ≡ nothing → F t ↔ F u → IsTrue true ↔ F u
  fact_done t u e i = (λ x. i.0 (subst F (sym e) fact.none), λ r. refl)

-- a chain is no definition
pub chain_defined : (ds : Scope ℕ) (ts : List Tree) → IsDefined ds (chain ts) ≡ CallsKnown ds (chain ts)
chain_defined ds [] = refl
chain_defined ds (t ∷ ts) = refl
