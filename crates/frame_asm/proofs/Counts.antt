-- How many brackets of a kind the operations of a tree open in one another.
use Rattle.std.proofs.Common.{Bool, true, false, ◌≡◌, ℕ, ◌+◌, ◌≤◌, max, List, [], ◌∷◌, subst, arith}
use Rattle.std.specs.Prelude.{if◌then◌else◌}
use Rattle.frame_tree.specs.Tree.{Tree, send, retry, gap, repeat, choose, until, timed, nothing, chained, call, define}
use Rattle.frame_tree.specs.Names.{Scope, same_bytes, meant_by}
use Rattle.frame_tree.specs.Bounds.{depth_in}

-- a loop counts as l, a frame with a period as f, and a call of each name as so many
abbrev pub brackets_in : ℕ → ℕ → Scope ℕ → Tree → ℕ
brackets_in l f vs (send o x) = 0
brackets_in l f vs (retry n o x) = l
brackets_in l f vs (gap t) = 0
brackets_in l f vs (repeat n b) = l + brackets_in l f vs b
brackets_in l f vs (choose c a b) = max (brackets_in l f vs a) (brackets_in l f vs b)
brackets_in l f vs (until c n b) = l + brackets_in l f vs b
brackets_in l f vs (timed h b) = f + brackets_in l f vs b
brackets_in l f vs nothing = 0
brackets_in l f vs (chained a b) = max (brackets_in l f vs a) (brackets_in l f vs b)
brackets_in l f vs (call n) = meant_by 0 vs n
brackets_in l f vs (define n b r) = 0

abbrev pub loops_in : Scope ℕ → Tree → ℕ
loops_in vs t = brackets_in 1 0 vs t

abbrev pub frames_in : Scope ℕ → Tree → ℕ
frames_in us t = brackets_in 0 1 us t

-- each name with at most l brackets more than blocks: of loops there may be one more, a retry's, of frames none
abbrev pub AreFew : ℕ → Scope ℕ → Scope ℕ → Type 0
AreFew l [] [] = Unit {0}
AreFew l (v ∷ vs) (d ∷ ds) = (v.0 ≡ d.0) × (v.1 ≤ d.1 + l) × AreFew l vs ds
AreFew l _ _ = ⊥

few_chosen : (b : Bool) (l x y u v : ℕ) → x ≤ y + l → u ≤ v + l → (if b then x else u) ≤ (if b then y else v) + l
few_chosen true l x y u v e f = e
few_chosen false l x y u v e f = f

few_named : (l : ℕ) (vs ds : Scope ℕ) (n : List ℕ) → AreFew l vs ds → meant_by 0 vs n ≤ meant_by 0 ds n + l
few_named l [] [] n h = omega arith
few_named l [] (d ∷ ds) n h = absurd h
few_named l (v ∷ vs) [] n h = absurd h
few_named l (v ∷ vs) (d ∷ ds) n h =
    subst (λ m. (if same_bytes v.0 n then v.1 else meant_by 0 vs n) ≤ (if same_bytes m n then d.1 else meant_by 0 ds n) + l) h.0
    (few_chosen (same_bytes v.0 n) l v.1 d.1 (meant_by 0 vs n) (meant_by 0 ds n) h.1 (few_named l vs ds n h.2))

module _ (l f : ℕ) (one : l ≤ 1) (one' : f ≤ 1) where
  pub few_brackets : (vs ds : Scope ℕ) (t : Tree) → AreFew l vs ds → brackets_in l f vs t ≤ depth_in ds t + l
  few_brackets vs ds (send o x) h = omega arith
  few_brackets vs ds (retry n o x) h = omega arith
  few_brackets vs ds (gap t) h = omega arith
  few_brackets vs ds (repeat n b) h = omega (arith, one, few_brackets vs ds b h)
  few_brackets vs ds (choose c a b) h = omega (arith, few_brackets vs ds a h, few_brackets vs ds b h)
  few_brackets vs ds (until c n b) h = omega (arith, one, few_brackets vs ds b h)
  few_brackets vs ds (timed n b) h = omega (arith, one', few_brackets vs ds b h)
  few_brackets vs ds nothing h = omega arith
  few_brackets vs ds (chained a b) h = omega (arith, few_brackets vs ds a h, few_brackets vs ds b h)
  few_brackets vs ds (call n) h = few_named l vs ds n h
  few_brackets vs ds (define n b r) h = omega arith
