-- The loops and the frames among the brackets that a place stands in.
use Rattle.std.proofs.Common.{Bool, true, false, cond, ◌≡◌, ℕ, suc, List, ◌∷◌, length, Some, sym, ap, ◌∙◌, subst}
use Rattle.std.specs.Prelude.{slice_get, not}
use Rattle.frame_code.specs.declared.Op.{Op}
use Rattle.frame_code.specs.declared.Op.TheVariants as op
use Rattle.frame_code.specs.Loadable.{open_at, is_loop, opens_loop, loops_among, frames_among, IsInLoop, IsInFrame}

module _ (os : List Op) where
  -- how many loops a place stands in, and how many frames
  abbrev pub loops_at : ℕ → ℕ
  loops_at p = length (loops_among os (open_at os p))

  abbrev pub frames_at : ℕ → ℕ
  frames_at p = length (frames_among os (open_at os p))

  -- a place stands directly in the bracket that the operation at p opens, a loop or not
  pub record IsIn (loop : Bool) (p q : ℕ) : Type 0 where
    pub kind : opens_loop os p ≡ loop
    pub top : open_at os q ≡ p ∷ open_at os p

  pub in_repeat : (p q k : ℕ) → slice_get os p ≡ Some (op.Loop k) → open_at os q ≡ p ∷ open_at os p → IsIn true p q
  in_repeat p q k h e = record { kind = ap is_loop h; top = e }

  pub in_timed : (p q : ℕ) → slice_get os p ≡ Some op.Begin → open_at os q ≡ p ∷ open_at os p → IsIn false p q
  in_timed p q h e = record { kind = ap is_loop h; top = e }

  counted : (p : ℕ) (st : List ℕ) (b : Bool) → opens_loop os p ≡ b → length (loops_among os (p ∷ st)) ≡ cond b (suc (length (loops_among os st))) (length (loops_among os st))
  counted p st true e = ap (λ v. length (cond v (p ∷ loops_among os st) (loops_among os st))) e
  counted p st false e = ap (λ v. length (cond v (p ∷ loops_among os st) (loops_among os st))) e

  counted' : (p : ℕ) (st : List ℕ) (b : Bool) → opens_loop os p ≡ b → length (frames_among os (p ∷ st)) ≡ cond b (length (frames_among os st)) (suc (length (frames_among os st)))
  counted' p st true e = ap (λ v. length (cond (not v) (p ∷ frames_among os st) (frames_among os st))) e
  counted' p st false e = ap (λ v. length (cond (not v) (p ∷ frames_among os st) (frames_among os st))) e

  pub loops_more : (b : Bool) (p q : ℕ) → IsIn b p q → loops_at q ≡ cond b (suc (loops_at p)) (loops_at p)
  loops_more b p q i = ap (λ st. length (loops_among os st)) i.top ∙ counted p (open_at os p) b i.kind

  pub frames_more : (b : Bool) (p q : ℕ) → IsIn b p q → frames_at q ≡ cond b (frames_at p) (suc (frames_at p))
  frames_more b p q i = ap (λ st. length (frames_among os st)) i.top ∙ counted' p (open_at os p) b i.kind

  pub loop_there : (p q : ℕ) → IsIn true p q → IsInLoop os (open_at os q)
  loop_there p q i = subst (IsInLoop os) (sym i.top) i.kind

  pub frame_there : (p q : ℕ) → IsIn false p q → IsInFrame os (open_at os q)
  frame_there p q i = subst (IsInFrame os) (sym i.top) i.kind
