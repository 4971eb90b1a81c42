-- How many brackets of a kind are open at once in each routine, its Calls counted with what they call.
use Rattle.std.proofs.Common.{◌≡◌, ℕ, zero, suc, ◌+◌, ◌-◌, ◌<◌, ◌≤◌, List, [], ◌∷◌, ◌++◌, length, get_or, Option, Some, None, refl, sym, ap, ◌∙◌, arith, length-append}
use Rattle.std.specs.Prelude.{slice_get, max}
use Rattle.std.proofs.Math.Seq.{get_or-append_seam}
use Rattle.std.proofs.Math.ListN.{get_or-append}
use Rattle.frame_code.specs.declared.Op.{Op}
use Rattle.frame_code.specs.Routines.{passed, owner_at}
use Rattle.frame_load.specs.declared.nesting.Kind.{Kind}
use Rattle.frame_load.specs.declared.nesting.Effect.{Effect}
use Rattle.frame_load.specs.declared.nesting.Effect.TheVariants.{Ends}
use Rattle.frame_load.specs.Marks.{open_of, effect_of, peak_of}
use Rattle.frame_load.proofs.Counts.{passed_by, passed_is}
use Rattle.frame_load.proofs.Opened.{there, routine_le}

-- the most brackets of a kind that are open at once, so far in the routine of a place, and in each routine before, its Calls
-- counted with what they call
pub record Depths : Type 0 where
  pub now : ℕ
  pub ended : List ℕ

abbrev pub deeper : Effect → ℕ → Depths → Depths
deeper Ends d s = record { now = 0; ended = s.ended ++ s.now ∷ [] }
deeper e d s = record { now = max s.now (peak_of e d s.ended); ended = s.ended }

abbrev pub depths_after : Kind → Option Op → ℕ → Depths → Depths
depths_after kind None d s = s
depths_after kind (Some o) d s = deeper (effect_of o kind) d s

long_by : (e : Effect) (d k : ℕ) (s : Depths) → length s.ended ≡ k → length (deeper e d s).ended ≡ passed_by e k
long_by Ends d k s e = omega (arith, e, length-append s.ended (s.now ∷ []))
long_by _ d k s e = e

kept_by : (e : Effect) (d r : ℕ) (s : Depths) → r < length s.ended → get_or (deeper e d s).ended r 0 ≡ get_or s.ended r 0
kept_by Ends d r s h = get_or-append s.ended (s.now ∷ []) 0 r h
kept_by _ d r s h = refl

module _ (kind : Kind) (os : List Op) where
  abbrev pub depths_at : ℕ → Depths
  depths_at zero = record { now = 0; ended = [] }
  depths_at (suc p) = depths_after kind (slice_get os p) (open_of kind os p) (depths_at p)

  -- the depths behind one operation more, and its routine
  pub depths_next : (p : ℕ) (o : Op) → slice_get os p ≡ Some o → depths_at (suc p) ≡ deeper (effect_of o kind) (open_of kind os p) (depths_at p)
  depths_next p o e = ap (λ v. depths_after kind v (open_of kind os p) (depths_at p)) e

  pub owner_next : (p : ℕ) (o : Op) → slice_get os p ≡ Some o → owner_at os (suc p) ≡ passed_by (effect_of o kind) (owner_at os p)
  owner_next p o e = ap (λ v. passed v (owner_at os p)) e ∙ passed_is kind o (owner_at os p)

  -- one depth for each routine that ended
  long_step : (v : Option Op) (d k : ℕ) (s : Depths) → length s.ended ≡ k → length (depths_after kind v d s).ended ≡ passed v k
  long_step None d k s e = e
  long_step (Some o) d k s e = long_by (effect_of o kind) d k s e ∙ sym (passed_is kind o k)

  pub ended_long : (p : ℕ) → length (depths_at p).ended ≡ owner_at os p
  ended_long zero = refl
  ended_long (suc p) = long_step (slice_get os p) (open_of kind os p) (owner_at os p) (depths_at p) (ended_long p)

  -- the depths of all routines, that of the main part last
  abbrev pub all_depths : List ℕ
  all_depths = (depths_at (length os)).ended ++ (depths_at (length os)).now ∷ []

  kept_step : (v : Option Op) (d r : ℕ) (s : Depths) → r < length s.ended → get_or (depths_after kind v d s).ended r 0 ≡ get_or s.ended r 0
  kept_step None d r s h = refl
  kept_step (Some o) d r s h = kept_by (effect_of o kind) d r s h

  kept : (d p r : ℕ) → p + d ≡ length os → r < owner_at os p → get_or all_depths r 0 ≡ get_or (depths_at p).ended r 0
  kept zero p r e h =
      let all : length os ≡ p = omega (arith, e) in
      get_or-append (depths_at (length os)).ended ((depths_at (length os)).now ∷ []) 0 r (omega (arith, h, ended_long (length os), ap (owner_at os) all)) ∙ ap (λ q. get_or (depths_at q).ended r 0) all
  kept (suc d) p r e h =
      kept d (suc p) r (omega (arith, e)) (omega (arith, h, routine_le os p (suc p) (omega arith)))
      ∙ kept_step (slice_get os p) (open_of kind os p) r (depths_at p) (omega (arith, h, ended_long p))

  -- what the depth of an ended routine is, wherever it is asked for
  pub depth_of : (p r : ℕ) → p ≤ length os → r < owner_at os p → get_or all_depths r 0 ≡ get_or (depths_at p).ended r 0
  depth_of p r le h = kept (length os - p) p r (omega (arith, le)) h

  -- what is open at a place counts for its routine
  grown_step : (p : ℕ) (o : Op) → slice_get os p ≡ Some o → suc p ≤ length os → ((depths_at (suc p)).now ≤ get_or all_depths (owner_at os (suc p)) 0) → (depths_at p).now ≤ get_or all_depths (owner_at os p) 0
  grown_step p o e le below = by (effect_of o kind) (depths_next p o e) (owner_next p o e)
    where
      by : (x : Effect) → depths_at (suc p) ≡ deeper x (open_of kind os p) (depths_at p) → owner_at os (suc p) ≡ passed_by x (owner_at os p) → (depths_at p).now ≤ get_or all_depths (owner_at os p) 0
      by Ends f g =
          let s = depths_at p in
          let k = owner_at os p in
          let here : get_or all_depths k 0 ≡ get_or (s.ended ++ s.now ∷ []) k 0 = depth_of (suc p) k le (omega (arith, g)) ∙ ap (λ (z : Depths). get_or z.ended k 0) f in
          let seam : get_or (s.ended ++ s.now ∷ []) k 0 ≡ s.now = ap (λ j. get_or (s.ended ++ s.now ∷ []) j 0) (sym (ended_long p)) ∙ get_or-append_seam s.ended s.now [] 0 in
          omega (arith, here, seam)
      by _ f g = omega (arith, below, ap (λ (z : Depths). z.now) f, ap (λ k. get_or all_depths k 0) g)

  grown : (d p : ℕ) → p + d ≡ length os → (depths_at p).now ≤ get_or all_depths (owner_at os p) 0
  grown zero p e =
      let all : p ≡ length os = omega (arith, e) in
      let seam = get_or-append_seam (depths_at (length os)).ended (depths_at (length os)).now [] 0 in
      omega (arith, seam, ap (λ j. get_or all_depths j 0) (ended_long (length os)), ap (λ q. get_or all_depths (owner_at os q) 0) all, ap (λ q. (depths_at q).now) all)
  grown (suc d) p e = let x = there os p (omega (arith, e)) in grown_step p x.0 x.1 (omega (arith, e)) (grown d (suc p) (omega (arith, e)))

  pub depth_at_least : (p : ℕ) → p ≤ length os → (depths_at p).now ≤ get_or all_depths (owner_at os p) 0
  depth_at_least p le = grown (length os - p) p (omega (arith, le))
