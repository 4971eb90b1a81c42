-- A chain that grows at its end.
use Rattle.std.proofs.Common.{◌≡◌, ℕ, ◌+◌, ◌<◌, ◌≤◌, List, [], ◌∷◌, ◌++◌, length, get_or, map, take, sym, ap, ◌∙◌, arith, Vec}
use Rattle.std.proofs.lemmas.List.{take_more, take_all, map-append}
use Rattle.frame_tree.specs.Tree.{Tree, chain, tree_of}
use Rattle.frame_tree.specs.declared.Frame.{Frame, Seq}
use Rattle.frame_tree.proofs.Trees.{tree_seq}
use Rattle.frame_asm.specs.Shapes.{size, entries}

pub size_more : (ts : List Tree) (t : Tree) → size (chain (ts ++ t ∷ [])) ≡ size (chain ts) + size t
size_more [] t = omega arith
size_more (s ∷ ts) t = omega (arith, size_more ts t)

pub entries_more : (ts : List Tree) (t : Tree) → entries (chain (ts ++ t ∷ [])) ≡ entries (chain ts) + entries t
entries_more [] t = omega arith
entries_more (s ∷ ts) t = omega (arith, entries_more ts t)

-- the first i frames as a tree
abbrev pub front : {A : Type 0} → ℕ → List (Frame A) → Tree
front i fs = chain (map tree_of (take i fs))

-- one more frame
pub front_more : {A : Type 0} → (fs : List (Frame A)) (i : ℕ) (f : Frame A) → i < length fs → f ≡ get_or fs i f → front (i + 1) fs ≡ chain (map tree_of (take i fs) ++ tree_of f ∷ [])
front_more fs i f h is =
    ap (λ xs. chain (map tree_of xs)) (take_more fs i f h)
    ∙ ap (λ z. chain (map tree_of (take i fs ++ z ∷ []))) (sym is)
    ∙ ap chain (map-append tree_of (take i fs) (f ∷ []))

pub front_size : {A : Type 0} → (fs : List (Frame A)) (i : ℕ) (f : Frame A) → i < length fs → f ≡ get_or fs i f → size (front (i + 1) fs) ≡ size (front i fs) + size (tree_of f)
front_size fs i f h is = ap size (front_more fs i f h is) ∙ size_more (map tree_of (take i fs)) (tree_of f)

pub front_entries : {A : Type 0} → (fs : List (Frame A)) (i : ℕ) (f : Frame A) → i < length fs → f ≡ get_or fs i f → entries (front (i + 1) fs) ≡ entries (front i fs) + entries (tree_of f)
front_entries fs i f h is = ap entries (front_more fs i f h is) ∙ entries_more (map tree_of (take i fs)) (tree_of f)

pub front_all : {A : Type 0} → (v : Vec (Frame A) A) (i : ℕ) (fs : List (Frame A)) → fs ≡ v.items → length fs ≤ i → front i fs ≡ tree_of (Seq v)
front_all v i fs e h = ap (λ xs. chain (map tree_of xs)) (take_all i fs h ∙ e) ∙ sym (tree_seq v)
