-- The operations of a frame in parts.
use Rattle.std.proofs.Common.{◌≡◌, ℕ, ◌+◌, ◌<◌, ◌≤◌, List, [], ◌∷◌, ◌++◌, length, get_or, map, take, subst, sym, ap, ap₂, ◌∙◌, arith, append_assoc, length-append, zero, suc}
use Rattle.std.proofs.lemmas.List.{append-nil}
use Rattle.mil_word.specs.declared.Line.{Line}
use Rattle.mil_message.specs.declared.messages.Message.{Message}
use Rattle.frame_tree.specs.Tree.{Condition, Tree, repeat, choose, until, define, chain, tree_of}
use Rattle.frame_tree.specs.Names.{Scope}
use Rattle.frame_tree.specs.Bounds.{CallsKnown, IsDefined}
use Rattle.frame_tree.specs.declared.Frame.{Frame}
use Rattle.frame_code.specs.declared.Op.{Op}
use Rattle.frame_code.specs.declared.Op.TheVariants as op
use Rattle.frame_asm.specs.Shapes.{branch_size, branch, size, entries, tree_messages, until_front, shape, AreRoutines}
use Rattle.frame_asm.proofs.Lengths.{length_branch, length_shape, length_messages_of}
use Rattle.frame_asm.proofs.Chains.{front, front_more}

pub length_put : {X : Type 0} (c0 c1 : List X) (x : X) → c1 ≡ c0 ++ x ∷ [] → length c1 ≡ length c0 + 1
length_put c0 c1 x e = ap length e ∙ length-append c0 (x ∷ [])

pub length_branched : (c : Condition) (c0 c1 : List Op) (p t f : ℕ) → c1 ≡ c0 ++ branch p c t f → length c1 ≡ length c0 + branch_size c
length_branched c c0 c1 p t f e = ap length e ∙ length-append c0 (branch p c t f) ∙ ap (λ n. length c0 + n) (length_branch c p t f)

-- what stands in front of the body of an until, one operation after the other
pub until_opened : (c : Condition) (n s : ℕ) (c0 c1 c2 c3 : List Op) (l e : ℕ) → l ≡ length c0 + 1 + branch_size c → e ≡ l + s + 2
    → c1 ≡ c0 ++ op.Loop n ∷ [] → c2 ≡ c1 ++ branch (length c1) c l (l + 1) → c3 ≡ c2 ++ op.Leave e ∷ [] → c3 ≡ c0 ++ until_front (length c0) c n s
until_opened c n s c0 c1 c2 c3 l e il ie e1 e2 e3 =
    let p = length c0 in
    let l0 = p + 1 + branch_size c in
    let l1 : length c1 ≡ p + 1 = length_put c0 c1 (op.Loop n) e1 in
    let ie0 : e ≡ l0 + s + 2 = ie ∙ ap (λ z. z + s + 2) il in
    let pa = op.Loop n in
    let pb = branch (p + 1) c l0 (l0 + 1) in
    let pc = op.Leave (l0 + s + 2) in
    let d2 : c2 ≡ (c0 ++ pa ∷ []) ++ pb = e2 ∙ ap₂ (λ x y. x ++ branch y c l (l + 1)) e1 l1 ∙ ap (λ z. (c0 ++ pa ∷ []) ++ branch (p + 1) c z (z + 1)) il in
    let d3 : c3 ≡ ((c0 ++ pa ∷ []) ++ pb) ++ pc ∷ [] = e3 ∙ ap₂ (λ x y. x ++ op.Leave y ∷ []) d2 ie0 in
    let flat : ((c0 ++ pa ∷ []) ++ pb) ++ pc ∷ [] ≡ c0 ++ pa ∷ (pb ++ pc ∷ []) = simp append_assoc in
    d3 ∙ flat

pub length_fronted : (c : Condition) (n : ℕ) (c0 c1 : List Op) (p s : ℕ) → c1 ≡ c0 ++ until_front p c n s → length c1 ≡ length c0 + branch_size c + 2
length_fronted c n c0 c1 p s e =
    let l = p + 1 + branch_size c in
    let last = op.Leave (l + s + 2) ∷ [] in
    omega (arith, ap length e, length-append c0 (until_front p c n s), length-append (branch (p + 1) c l (l + 1)) last, length_branch c (p + 1) l (l + 1))

pub length_entered : (t : Tree) (m0 m1 : List (Line × Message)) → m1 ≡ m0 ++ tree_messages t → length m1 ≡ length m0 + entries t
length_entered t m0 m1 e = ap length e ∙ length-append m0 (tree_messages t) ∙ ap (λ n. length m0 + n) (length_messages_of t)

pub messages_done : (tree a a1 b b1 : Tree) (c : Condition) (m0 m1 m2 : List (Line × Message)) → tree ≡ choose c a b → a1 ≡ a → b1 ≡ b → m1 ≡ m0 ++ tree_messages a1 → m2 ≡ m1 ++ tree_messages b1 → m2 ≡ m0 ++ tree_messages tree
messages_done tree a a1 b b1 c m0 m1 m2 is ia ib e1 e2 =
    e2 ∙ ap₂ (λ x y. x ++ tree_messages y) (e1 ∙ ap (λ z. m0 ++ tree_messages z) ia) ib ∙ append_assoc m0 (tree_messages a) (tree_messages b) ∙ ap (λ z. m0 ++ tree_messages z) (sym is)

pub messages_more : (ts : List Tree) (t : Tree) → tree_messages (chain (ts ++ t ∷ [])) ≡ tree_messages (chain ts) ++ tree_messages t
messages_more [] t = append-nil (tree_messages t)
messages_more (s ∷ ts) t = ap (λ z. tree_messages s ++ z) (messages_more ts t) ∙ sym (append_assoc (tree_messages s) _ _)

pub room_at : {A : Type 0} (fs : List (Frame A)) (i : ℕ) (f : Frame A) → i < length fs → f ≡ get_or fs i f → size (front i fs) + size (tree_of f) ≤ size (chain (map tree_of fs))
room_at [] i f h is = absurd (omega arith)
room_at (x ∷ fs) zero f h is = omega (arith, ap (λ z. size (tree_of z)) is)
room_at (x ∷ fs) (suc i) f h is = omega (arith, room_at fs i f (omega arith) is)

pub table_at : {A : Type 0} (fs : List (Frame A)) (i : ℕ) (f : Frame A) → i < length fs → f ≡ get_or fs i f → entries (front i fs) + entries (tree_of f) ≤ entries (chain (map tree_of fs))
table_at [] i f h is = absurd (omega arith)
table_at (x ∷ fs) zero f h is = omega (arith, ap (λ z. entries (tree_of z)) is)
table_at (x ∷ fs) (suc i) f h is = omega (arith, table_at fs i f (omega arith) is)

pub front_entered : {A : Type 0} (fs : List (Frame A)) (i : ℕ) (f : Frame A) → i < length fs → f ≡ get_or fs i f → (m0 m1 m2 : List (Line × Message))
    → m1 ≡ m0 ++ tree_messages (front i fs) → m2 ≡ m1 ++ tree_messages (tree_of f) → m2 ≡ m0 ++ tree_messages (front (i + 1) fs)
front_entered fs i f h is m0 m1 m2 e1 e2 =
    e2 ∙ ap (λ z. z ++ tree_messages (tree_of f)) e1 ∙ append_assoc m0 _ _
    ∙ ap (λ z. m0 ++ z) (sym (messages_more (map tree_of (take i fs)) (tree_of f)))
    ∙ ap (λ z. m0 ++ tree_messages z) (sym (front_more fs i f h is))

-- a part of a frame whose calls are known
pub known_in : (ds : Scope ℕ) (tree whole part part1 : Tree) → tree ≡ whole → part1 ≡ part → CallsKnown ds tree → (CallsKnown ds whole → CallsKnown ds part) → CallsKnown ds part1
known_in ds tree whole part part1 e f k g = subst (CallsKnown ds) (sym f) (g (subst (CallsKnown ds) e k))

pub calls_at : {A : Type 0} (ds : Scope ℕ) (fs : List (Frame A)) (i : ℕ) (f : Frame A) → i < length fs → f ≡ get_or fs i f → CallsKnown ds (chain (map tree_of fs)) → CallsKnown ds (tree_of f)
calls_at ds [] i f h is k = absurd (omega arith)
calls_at ds (x ∷ fs) zero f h is k = subst (λ z. CallsKnown ds (tree_of z)) (sym is) k.0
calls_at ds (x ∷ fs) (suc i) f h is k = calls_at ds fs i f (omega arith) is k.1

module _ (rs : Scope ℕ) where
  pub length_grown : (t : Tree) (c0 c1 : List Op) (p m : ℕ) → c1 ≡ c0 ++ shape rs p m t → length c1 ≡ length c0 + size t
  length_grown t c0 c1 p m e = ap length e ∙ length-append c0 (shape rs p m t) ∙ ap (λ n. length c0 + n) (length_shape t rs p m)

  pub repeat_done : (tree b b1 : Tree) (n : ℕ) (c0 c1 c2 c3 : List Op) (m i : ℕ) → tree ≡ repeat n b → b1 ≡ b → i ≡ length c0 + 1
      → c1 ≡ c0 ++ op.Loop n ∷ [] → c2 ≡ c1 ++ shape rs (length c1) m b1 → c3 ≡ c2 ++ op.Again i ∷ [] → c3 ≡ c0 ++ shape rs (length c0) m tree
  repeat_done tree b b1 n c0 c1 c2 c3 m i is ib ii e1 e2 e3 =
      let l1 = length_put c0 c1 (op.Loop n) e1 in
      let body : shape rs (length c1) m b1 ≡ shape rs (length c0 + 1) m b = ap₂ (λ p t. shape rs p m t) l1 ib in
      let all : c3 ≡ ((c0 ++ op.Loop n ∷ []) ++ shape rs (length c0 + 1) m b) ++ op.Again (length c0 + 1) ∷ [] = cc in
      let flat : ((c0 ++ op.Loop n ∷ []) ++ shape rs (length c0 + 1) m b) ++ op.Again (length c0 + 1) ∷ [] ≡ c0 ++ op.Loop n ∷ (shape rs (length c0 + 1) m b ++ op.Again (length c0 + 1) ∷ []) = simp append_assoc in
      all ∙ flat ∙ ap (λ t. c0 ++ shape rs (length c0) m t) (sym is)

  pub until_done : (tree b b1 : Tree) (c : Condition) (n : ℕ) (c0 c3 c4 c5 : List Op) (m a s : ℕ) → tree ≡ until c n b → b1 ≡ b → s ≡ size b → a ≡ length c0 + 1
      → c3 ≡ c0 ++ until_front (length c0) c n s → c4 ≡ c3 ++ shape rs (length c3) m b1 → c5 ≡ c4 ++ op.Again a ∷ []
      → c5 ≡ c0 ++ shape rs (length c0) m tree
  until_done tree b b1 c n c0 c3 c4 c5 m a s is ib ie ia e3 e4 e5 =
      let p = length c0 in
      let l0 = p + 1 + branch_size c in
      let l3 : length c3 ≡ l0 + 1 = omega (arith, length_fronted c n c0 c3 p s e3) in
      let pa = op.Loop n in
      let pb = branch (p + 1) c l0 (l0 + 1) in
      let pc = op.Leave (l0 + size b + 2) in
      let pd = shape rs (l0 + 1) m b in
      let pe = op.Again (p + 1) in
      let d3 : c3 ≡ c0 ++ pa ∷ (pb ++ pc ∷ []) = e3 ∙ ap (λ z. c0 ++ until_front p c n z) ie in
      let d4 : c4 ≡ (c0 ++ pa ∷ (pb ++ pc ∷ [])) ++ pd = e4 ∙ ap₂ (λ x y. x ++ shape rs y m b1) d3 l3 ∙ ap (λ z. (c0 ++ pa ∷ (pb ++ pc ∷ [])) ++ shape rs (l0 + 1) m z) ib in
      let d5 : c5 ≡ ((c0 ++ pa ∷ (pb ++ pc ∷ [])) ++ pd) ++ pe ∷ [] = e5 ∙ ap₂ (λ x y. x ++ op.Again y ∷ []) d4 ia in
      let flat : ((c0 ++ pa ∷ (pb ++ pc ∷ [])) ++ pd) ++ pe ∷ [] ≡ c0 ++ pa ∷ (pb ++ (pc ∷ (pd ++ pe ∷ []))) = simp append_assoc in
      d5 ∙ flat ∙ ap (λ t. c0 ++ shape rs p m t) (sym is)

  pub choose_done : (tree a a1 b b1 : Tree) (c k : Condition) (c0 c1 c2 c3 c4 : List Op) (m0 m1 : List (Line × Message)) (t f e : ℕ)
      → tree ≡ choose c a b → k ≡ c → a1 ≡ a → b1 ≡ b → t ≡ length c0 + branch_size c → f ≡ t + size a + 1 → e ≡ f + size b
      → c1 ≡ c0 ++ branch (length c0) k t f → c2 ≡ c1 ++ shape rs (length c1) (length m0) a1 → m1 ≡ m0 ++ tree_messages a1 → c3 ≡ c2 ++ op.Jump e ∷ [] → c4 ≡ c3 ++ shape rs (length c3) (length m1) b1
      → c4 ≡ c0 ++ shape rs (length c0) (length m0) tree
  choose_done tree a a1 b b1 c k c0 c1 c2 c3 c4 m0 m1 t f e is ik ia ib it if ie e1 e2 em e3 e4 =
      let l1 : length c1 ≡ t = length_branched k c0 c1 (length c0) t f e1 ∙ ap (λ z. length c0 + branch_size z) ik ∙ sym it in
      let l2 : length c2 ≡ length c1 + size a = length_grown a1 c1 c2 _ _ e2 ∙ ap (λ z. length c1 + size z) ia in
      let l3 : length c3 ≡ f = omega (arith, length_put c2 c3 (op.Jump e) e3, l2, l1, if) in
      let lm : length m1 ≡ length m0 + entries a = length_entered a1 m0 m1 em ∙ ap (λ z. length m0 + entries z) ia in
      let p = length c0 in
      let t0 = p + branch_size c in
      let f0 = t0 + size a + 1 in
      let if0 : f ≡ f0 = if ∙ ap (λ z. z + size a + 1) it in
      let ie0 : e ≡ f0 + size b = ie ∙ ap (λ z. z + size b) if0 in
      let pa = branch p c t0 f0 in
      let pb = shape rs t0 (length m0) a in
      let pc = op.Jump (f0 + size b) in
      let pd = shape rs f0 (length m0 + entries a) b in
      let d1 : c1 ≡ c0 ++ pa = e1 ∙ ap (λ z. c0 ++ branch p z t f) ik ∙ ap₂ (λ x y. c0 ++ branch p c x y) it if0 in
      let d2 : c2 ≡ (c0 ++ pa) ++ pb = e2 ∙ ap₂ (λ x y. x ++ shape rs y (length m0) a1) d1 (l1 ∙ it) ∙ ap (λ z. (c0 ++ pa) ++ shape rs t0 (length m0) z) ia in
      let d3 : c3 ≡ ((c0 ++ pa) ++ pb) ++ pc ∷ [] = e3 ∙ ap₂ (λ x y. x ++ op.Jump y ∷ []) d2 ie0 in
      let d4 : c4 ≡ (((c0 ++ pa) ++ pb) ++ pc ∷ []) ++ pd = e4 ∙ ap₂ (λ x y. x ++ shape rs y (length m1) b1) d3 (l3 ∙ if0) ∙ ap₂ (λ x y. (((c0 ++ pa) ++ pb) ++ pc ∷ []) ++ shape rs f0 x y) lm ib in
      let flat : (((c0 ++ pa) ++ pb) ++ pc ∷ []) ++ pd ≡ c0 ++ (pa ++ (pb ++ (pc ∷ pd))) = simp append_assoc in
      d4 ∙ flat ∙ ap (λ z. c0 ++ shape rs p (length m0) z) (sym is)

  -- a chain with one more frame
  pub shape_more : (ts : List Tree) (t : Tree) (p m : ℕ) → shape rs p m (chain (ts ++ t ∷ [])) ≡ shape rs p m (chain ts) ++ shape rs (p + size (chain ts)) (m + entries (chain ts)) t
  shape_more [] t p m = let e : p ≡ p + 0 = omega arith in let e' : m ≡ m + 0 = omega arith in append-nil (shape rs p m t) ∙ ap₂ (λ x y. shape rs x y t) e e'
  shape_more (s ∷ ts) t p m =
      let e : p + size s + size (chain ts) ≡ p + (size s + size (chain ts)) = omega arith in
      let e' : m + entries s + entries (chain ts) ≡ m + (entries s + entries (chain ts)) = omega arith in
      ap (λ z. shape rs p m s ++ z) (shape_more ts t (p + size s) (m + entries s) ∙ ap₂ (λ x y. shape rs (p + size s) (m + entries s) (chain ts) ++ shape rs x y t) e e')
      ∙ sym (append_assoc (shape rs p m s) _ _)

  -- one more turn of the loop over a chain
  pub front_done : {A : Type 0} (fs : List (Frame A)) (i : ℕ) (f : Frame A) → i < length fs → f ≡ get_or fs i f → (c0 c1 c2 : List Op) (m0 m1 : List (Line × Message))
      → c1 ≡ c0 ++ shape rs (length c0) (length m0) (front i fs) → m1 ≡ m0 ++ tree_messages (front i fs) → c2 ≡ c1 ++ shape rs (length c1) (length m1) (tree_of f)
      → c2 ≡ c0 ++ shape rs (length c0) (length m0) (front (i + 1) fs)
  front_done fs i f h is c0 c1 c2 m0 m1 e1 em e2 =
      let l1 = length_grown (front i fs) c0 c1 (length c0) (length m0) e1 in
      let lm = length_entered (front i fs) m0 m1 em in
      e2
      ∙ ap₂ (λ x y. c1 ++ shape rs x y (tree_of f)) l1 lm
      ∙ ap (λ z. z ++ shape rs (length c0 + size (front i fs)) (length m0 + entries (front i fs)) (tree_of f)) e1
      ∙ append_assoc c0 _ _
      ∙ ap (λ z. c0 ++ z) (sym (shape_more (map tree_of (take i fs)) (tree_of f) (length c0) (length m0)))
      ∙ ap (λ z. c0 ++ shape rs (length c0) (length m0) z) (sym (front_more fs i f h is))

-- a definition: its body, a Return, and the rest
pub define_done : (rs : Scope ℕ) (tree b b1 r r1 : Tree) (n : List ℕ) (k : ℕ) (sc : Scope ℕ) (c0 c1 c2 c3 : List Op) (m0 m1 : List (Line × Message)) → tree ≡ define n b r → b1 ≡ b → r1 ≡ r → length rs ≡ k → sc ≡ (n, k) ∷ rs
    → c1 ≡ c0 ++ shape rs (length c0) (length m0) b1 → m1 ≡ m0 ++ tree_messages b1 → c2 ≡ c1 ++ op.Return ∷ [] → c3 ≡ c2 ++ shape sc (length c2) (length m1) r1
    → c3 ≡ c0 ++ shape rs (length c0) (length m0) tree
define_done rs tree b b1 r r1 n k sc c0 c1 c2 c3 m0 m1 is ib ir ik isc e1 em e2 e3 =
    let p = length c0 in
    let m = length m0 in
    let l1 : length c1 ≡ p + size b = length_grown rs b1 c0 c1 p m e1 ∙ ap (λ z. p + size z) ib in
    let l2 : length c2 ≡ p + size b + 1 = omega (arith, length_put c1 c2 op.Return e2, l1) in
    let lm : length m1 ≡ m + entries b = length_entered b1 m0 m1 em ∙ ap (λ z. m + entries z) ib in
    let pa = shape rs p m b in
    let pc = shape ((n, length rs) ∷ rs) (p + size b + 1) (m + entries b) r in
    let d1 : c1 ≡ c0 ++ pa = e1 ∙ ap (λ z. c0 ++ shape rs p m z) ib in
    let d2 : c2 ≡ (c0 ++ pa) ++ op.Return ∷ [] = e2 ∙ ap (λ x. x ++ op.Return ∷ []) d1 in
    let d3 : c3 ≡ ((c0 ++ pa) ++ op.Return ∷ []) ++ pc = e3 ∙ ap₂ (λ x y. x ++ shape y (length c2) (length m1) r1) d2 (isc ∙ ap (λ y. (n, y) ∷ rs) (sym ik)) ∙ ap₂ (λ x y. ((c0 ++ pa) ++ op.Return ∷ []) ++ shape ((n, length rs) ∷ rs) x y r1) l2 lm ∙ ap (λ z. ((c0 ++ pa) ++ op.Return ∷ []) ++ shape ((n, length rs) ∷ rs) (p + size b + 1) (m + entries b) z) ir in
    let flat : ((c0 ++ pa) ++ op.Return ∷ []) ++ pc ≡ c0 ++ (pa ++ (op.Return ∷ pc)) = simp append_assoc in
    d3 ∙ flat ∙ ap (λ t. c0 ++ shape rs p m t) (sym is)

pub define_entered : (tree b b1 r r1 : Tree) (n : List ℕ) (m0 m1 m2 : List (Line × Message)) → tree ≡ define n b r → b1 ≡ b → r1 ≡ r → m1 ≡ m0 ++ tree_messages b1 → m2 ≡ m1 ++ tree_messages r1 → m2 ≡ m0 ++ tree_messages tree
define_entered tree b b1 r r1 n m0 m1 m2 is ib ir e1 e2 =
    e2 ∙ ap₂ (λ x y. x ++ tree_messages y) (e1 ∙ ap (λ z. m0 ++ tree_messages z) ib) ir ∙ append_assoc m0 (tree_messages b) (tree_messages r) ∙ ap (λ z. m0 ++ tree_messages z) (sym is)

-- what a definition leaves in scope for the rest
pub rest_defined : (rs sc : Scope ℕ) (tree b r r1 : Tree) (n : List ℕ) (k : ℕ) → tree ≡ define n b r → r1 ≡ r → length rs ≡ k → sc ≡ (n, k) ∷ rs → IsDefined rs tree → IsDefined sc r1
rest_defined rs sc tree b r r1 n k is ir ik isc d =
    let d' : IsDefined ((n, length rs) ∷ rs) r = (subst (IsDefined rs) is d).3 in
    let all : IsDefined ((n, length rs) ∷ rs) r ≡ IsDefined sc r1 = ap₂ (λ x y. IsDefined ((n, x) ∷ rs) y) ik (sym ir) ∙ ap (λ x. IsDefined x r1) (sym isc) in
    subst (λ P. P) all d'

pub rest_routines : (rs sc : Scope ℕ) (tree b r : Tree) (n : List ℕ) (k : ℕ) → tree ≡ define n b r → length rs ≡ k → sc ≡ (n, k) ∷ rs → IsDefined rs tree → AreRoutines rs → AreRoutines sc
rest_routines rs sc tree b r n k is ik isc d z =
    let few = (subst (IsDefined rs) is d).0 in
    subst AreRoutines (sym isc) (subst (λ v. v < 32) ik few, z)
