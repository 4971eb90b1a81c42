-- The brackets that are open behind a frame's operations are those that were open before.
use Rattle.std.proofs.Common.{◌≡◌, ℕ, suc, ◌+◌, List, [], ◌∷◌, ◌++◌, length, Some, refl, ap, ◌∙◌, arith}
use Rattle.std.specs.Prelude.{slice_get}
use Rattle.mil_message.specs.declared.outcome_test.OutcomeTest.TheVariants.{Failed}
use Rattle.frame_tree.specs.Tree.{Condition, asked, negated, both, either, Tree, send, retry, gap, repeat, choose, until, timed, nothing, chained, call, define}
use Rattle.frame_tree.specs.Names.{Scope, meant_by}
use Rattle.frame_code.specs.declared.Op.{Op}
use Rattle.frame_code.specs.declared.Op.TheVariants as op
use Rattle.frame_code.specs.Loadable.{tail, after, open_at}
use Rattle.frame_asm.proofs.Runs.{HasAt, has_front, has_back}
use Rattle.frame_asm.proofs.Lengths.{length_branch, length_shape}
use Rattle.frame_asm.specs.Shapes.{branch_size, probe, branch, size, entries, shape}

abbrev pub AllFlat : List Op → Type 0
AllFlat [] = Unit {0}
AllFlat (y ∷ ys) = ((q : ℕ) (st : List ℕ) → after (Some y) q st ≡ st) × AllFlat ys

module _ (os : List Op) where
  pub next : (p : ℕ) (o : Op) → slice_get os p ≡ Some o → open_at os (p + 1) ≡ after (Some o) p (open_at os p)
  next p o at = let s : p + 1 ≡ suc p = omega arith in ap (open_at os) s ∙ ap (λ v. after v p (open_at os p)) at

  -- a list without operations that open or close a bracket
  flat : (p : ℕ) (ys : List Op) → HasAt os p ys → AllFlat ys → open_at os (p + length ys) ≡ open_at os p
  flat p [] h f = let s : p + 0 ≡ p = omega arith in ap (open_at os) s
  flat p (y ∷ ys) h f =
      let s : p + suc (length ys) ≡ p + 1 + length ys = omega arith in
      ap (open_at os) s ∙ flat (p + 1) ys h.1 f.1 ∙ next p y h.0 ∙ f.0 p (open_at os p)

  pub branch_level : (p t f : ℕ) (c : Condition) → HasAt os p (branch p c t f) → open_at os (p + branch_size c) ≡ open_at os p
  branch_level p t f (asked k) h = flat p (probe k t f) h (λ q st. refl, (λ q st. refl, (λ q st. refl, tt)))
  branch_level p t f (negated c) h = branch_level p f t c h
  branch_level p t f (both a b) h =
      let m = p + branch_size a in
      let s : p + (branch_size a + branch_size b) ≡ m + branch_size b = omega arith in
      ap (open_at os) s ∙ branch_level m t f b (has_back os p m (branch p a m f) (branch m b t f) (omega (arith, length_branch a p m f)) h) ∙ branch_level p m f a (has_front os p (branch p a m f) (branch m b t f) h)
  branch_level p t f (either a b) h =
      let m = p + branch_size a in
      let s : p + (branch_size a + branch_size b) ≡ m + branch_size b = omega arith in
      ap (open_at os) s ∙ branch_level m t f b (has_back os p m (branch p a t m) (branch m b t f) (omega (arith, length_branch a p t m)) h) ∙ branch_level p t m a (has_front os p (branch p a t m) (branch m b t f) h)

  pub level : (rs : Scope ℕ) (p m : ℕ) (t : Tree) → HasAt os p (shape rs p m t) → open_at os (p + size t) ≡ open_at os p
  level rs p m (send l x) h = next p (op.Send m) h.0
  level rs p m (gap t) h = next p (op.SetGap t) h.0
  level rs p m (call n) h = next p (op.Call (meant_by 0 rs n)) h.0
  level rs p m (define n b r) h =
      let q = p + size b in
      let inner = (n, length rs) ∷ rs in
      let rest = shape inner (q + 1) (m + entries b) r in
      let s : p + (size b + 1 + size r) ≡ q + 1 + size r = omega arith in
      let back = has_back os p q (shape rs p m b) (op.Return ∷ rest) (omega (arith, length_shape b rs p m)) h in
      ap (open_at os) s ∙ level inner (q + 1) (m + entries b) r back.1 ∙ next q op.Return back.0 ∙ level rs p m b (has_front os p (shape rs p m b) (op.Return ∷ rest) h)
  level rs p m nothing h = let s : p + 0 ≡ p = omega arith in ap (open_at os) s
  level rs p m (chained a b) h =
      let q = p + size a in
      let s : p + (size a + size b) ≡ q + size b = omega arith in
      ap (open_at os) s ∙ level rs q (m + entries a) b (has_back os p q (shape rs p m a) (shape rs q (m + entries a) b) (omega (arith, length_shape a rs p m)) h) ∙ level rs p m a (has_front os p (shape rs p m a) (shape rs q (m + entries a) b) h)
  level rs p m (repeat n b) h =
      let q = p + 1 + size b in
      let s : p + (size b + 2) ≡ q + 1 = omega arith in
      let inside = level rs (p + 1) m b (has_front os (p + 1) (shape rs (p + 1) m b) (op.Again (p + 1) ∷ []) h.1) in
      let back = has_back os (p + 1) q (shape rs (p + 1) m b) (op.Again (p + 1) ∷ []) (omega (arith, length_shape b rs (p + 1) m)) h.1 in
      ap (open_at os) s ∙ next q (op.Again (p + 1)) back.0 ∙ ap tail (inside ∙ next p (op.Loop n) h.0)
  level rs p m (timed n b) h =
      let q = p + 1 + size b in
      let s : p + (size b + 2) ≡ q + 1 = omega arith in
      let inside = level rs (p + 1) m b (has_front os (p + 1) (shape rs (p + 1) m b) (op.Pace n ∷ []) h.1) in
      let back = has_back os (p + 1) q (shape rs (p + 1) m b) (op.Pace n ∷ []) (omega (arith, length_shape b rs (p + 1) m)) h.1 in
      ap (open_at os) s ∙ next q (op.Pace n) back.0 ∙ ap tail (inside ∙ next p op.Begin h.0)
  level rs p m (until c n b) h =
      let l = p + 1 + branch_size c in
      let test = branch (p + 1) c l (l + 1) in
      let body = shape rs (l + 1) m b in
      let back = op.Again (p + 1) ∷ [] in
      let rest = op.Leave (l + size b + 2) ∷ (body ++ back) in
      let q = l + 1 + size b in
      let s : p + (branch_size c + size b + 3) ≡ q + 1 = omega arith in
      let hr = has_back os (p + 1) l test rest (omega (arith, length_branch c (p + 1) l (l + 1))) h.1 in
      let tested = branch_level (p + 1) l (l + 1) c (has_front os (p + 1) test rest h.1) in
      let inside = level rs (l + 1) m b (has_front os (l + 1) body back hr.1) in
      let end = has_back os (l + 1) q body back (omega (arith, length_shape b rs (l + 1) m)) hr.1 in
      ap (open_at os) s ∙ next q (op.Again (p + 1)) end.0 ∙ ap tail (inside ∙ next l (op.Leave (l + size b + 2)) hr.0 ∙ tested ∙ next p (op.Loop n) h.0)
  level rs p m (retry n l x) h =
      let a = p + 1 + 1 in
      let ops = op.Test Failed ∷ op.JumpFalse (p + 6) ∷ op.Alt m ∷ op.Jump (p + 7) ∷ op.Leave (p + 8) ∷ [] in
      let body : open_at os (a + 5) ≡ open_at os a = flat a ops (h.1.1.0, (h.1.1.1.0, (h.1.1.1.1.0, (h.1.1.1.1.1.0, (h.1.1.1.1.1.1.0, tt))))) (λ q st. refl, (λ q st. refl, (λ q st. refl, (λ q st. refl, (λ q st. refl, tt))))) in
      let q = a + 1 + 1 + 1 + 1 + 1 in
      let same : q ≡ a + 5 = omega arith in
      let all : p + 8 ≡ q + 1 = omega arith in
      let opened = next (p + 1) (op.Loop n) h.1.0 in
      ap (open_at os) all ∙ next q (op.Again (p + 2)) h.1.1.1.1.1.1.1.0 ∙ ap tail (ap (open_at os) same ∙ body ∙ opened) ∙ next p (op.Send m) h.0
  level rs p m (choose c a b) h =
      let t = p + branch_size c in
      let f = t + size a + 1 in
      let else_part = op.Jump (f + size b) ∷ shape rs f (m + entries a) b in
      let h1 = has_back os p t (branch p c t f) (shape rs t m a ++ else_part) (omega (arith, length_branch c p t f)) h in
      let h2 = has_back os t (t + size a) (shape rs t m a) else_part (omega (arith, length_shape a rs t m)) h1 in
      let s : p + (branch_size c + size a + 1 + size b) ≡ f + size b = omega arith in
      ap (open_at os) s ∙ level rs f (m + entries a) b h2.1 ∙ next (t + size a) (op.Jump (f + size b)) h2.0
      ∙ level rs t m a (has_front os t (shape rs t m a) else_part h1) ∙ branch_level p t f c (has_front os p (branch p c t f) (shape rs t m a ++ else_part) h)
