-- The steps of counting the open brackets of a kind.
use Rattle.std.proofs.Common.{◌≡◌, ◌≢◌, ℕ, suc, ◌+◌, ◌<◌, ◌≤◌, List, [], ◌∷◌, ◌++◌, length, get_or, set, Some, refl, sym, ap, ◌∙◌, subst, ⊎_elim, arith}
use Rattle.std.specs.Prelude.{slice_get, max}
use Rattle.std.proofs.lemmas.Bool.{cases_lt}
use Rattle.std.proofs.Math.Seq.{get_or-append_seam}
use Rattle.std.proofs.Math.ListN.{get_or-append}
use Rattle.std.proofs.lemmas.List.{length-set, get_or-set_same, get_or-set_other}
use Rattle.frame_code.specs.declared.Op.{Op}
use Rattle.frame_code.specs.declared.Op.TheVariants.{Loop, Again, Call}
use Rattle.frame_code.specs.Loadable.{after, open_at, IsPaired}
use Rattle.frame_code.specs.Routines.{owner_at}
use Rattle.frame_load.specs.declared.nesting.Kind.{Kind}
use Rattle.frame_load.specs.declared.nesting.Kind.TheVariants.{Loops}
use Rattle.frame_load.specs.declared.nesting.Effect.{Effect}
use Rattle.frame_load.specs.declared.nesting.Effect.TheVariants.{Opens, Closes, Calls, Ends}
use Rattle.frame_load.specs.Marks.{count_in, open_of, effect_of, depth_after, peak_of, most_of}
use Rattle.frame_load.proofs.Counts.{passed_by, count_after, none_at_end, call_of}
use Rattle.frame_load.proofs.Depths.{Depths, deeper, depths_at, depths_next, owner_next, ended_long}

-- a fact of one operation more
pub more : (os : List Op) (P : ℕ → Op → Type 0) (i : ℕ) (o : Op) → slice_get os i ≡ Some o → P i o → ((p : ℕ) (o : Op) → p < i → slice_get os p ≡ Some o → P p o) → (p : ℕ) (o : Op) → p < suc i → slice_get os p ≡ Some o → P p o
more os P i o at here below p o' h e =
    ⊎_elim (λ lt. below p o' lt e)
    (λ le. let same : i ≡ p = omega (arith, le, h) in let one : o ≡ o' = let x : Some o ≡ Some o' = sym at ∙ ap (slice_get os) same ∙ e in cc in
    subst (P p) one (subst (λ v. P v o) same here)) (cases_lt p i)

-- what does not open or close a loop
pub keeps_loops : (o : Op) (d : ℕ) → ((n : ℕ) → o ≡ Loop n → ⊥) → ((i : ℕ) → o ≡ Again i → ⊥) → depth_after (effect_of o Loops) d ≡ d
keeps_loops (Loop n) d nl na = absurd (nl n refl)
keeps_loops (Again i) d nl na = absurd (na i refl)
keeps_loops _ d nl na = refl

module _ (kind : Kind) (os : List Op) where
  -- what is open behind one operation more
  pub open_next : (i : ℕ) (o : Op) → slice_get os i ≡ Some o → IsPaired os (open_at os i) o → open_of kind os (suc i) ≡ depth_after (effect_of o kind) (open_of kind os i)
  open_next i o at pair = ap (λ v. count_in kind os (after v i (open_at os i))) at ∙ count_after os kind o i (open_at os i) at pair

  -- no operation so far has too many open
  abbrev pub PeaksSoFar : ℕ → Type 0
  PeaksSoFar i = (p : ℕ) (o : Op) → p < i → slice_get os p ≡ Some o → peak_of (effect_of o kind) (open_of kind os p) (depths_at kind os p).ended ≤ most_of kind

  -- what is known at a place: how many are open, and the depths of the routine so far and of those that ended
  pub record Going (i depth deepest routine : ℕ) (ended : List ℕ) : Type 0 where
    pub depth_is : depth ≡ open_of kind os i
    pub deep : deepest ≡ (depths_at kind os i).now
    pub low : deepest ≤ most_of kind
    pub shallow : depth ≤ deepest
    pub routine_is : routine ≡ owner_at os i
    pub long : length ended ≡ 32
    pub depths : (r : ℕ) → r < owner_at os i → get_or ended r 0 ≡ get_or (depths_at kind os i).ended r 0
    pub ended_low : (r : ℕ) → r < owner_at os i → get_or ended r 0 ≤ most_of kind
    pub so_far : PeaksSoFar i

  module _ (i : ℕ) (o : Op) (at : slice_get os i ≡ Some o) (calls : (r : ℕ) → o ≡ Call r → r < owner_at os i) {depth deepest routine : ℕ} {ended : List ℕ} (g : Going i depth deepest routine ended) where
    pub peak_is : peak_of (effect_of o kind) depth ended ≡ peak_of (effect_of o kind) (open_of kind os i) (depths_at kind os i).ended
    peak_is = by (effect_of o kind) refl
      where
        by : (x : Effect) → effect_of o kind ≡ x → peak_of x depth ended ≡ peak_of x (open_of kind os i) (depths_at kind os i).ended
        by (Calls r) e = omega (arith, g.depth_is, g.depths r (calls r (call_of kind o r e)))
        by Opens e = omega (arith, g.depth_is)
        by _ e = refl

    depth_next : IsPaired os (open_at os i) o → depth_after (effect_of o kind) depth ≡ open_of kind os (suc i)
    depth_next pair = ap (depth_after (effect_of o kind)) g.depth_is ∙ sym (open_next i o at pair)

    shallow_by : (x : Effect) → depth_after x depth ≤ max deepest (peak_of x depth ended)
    shallow_by Opens = omega arith
    shallow_by Closes = omega (arith, g.shallow)
    shallow_by _ = omega (arith, g.shallow)

    -- one operation more that does not end a routine
    pub goes_on : IsPaired os (open_at os i) o → (effect_of o kind ≡ Ends → ⊥) → (depth' deepest' peak : ℕ) → peak ≡ peak_of (effect_of o kind) depth ended → deepest' ≡ max deepest peak → deepest' ≤ most_of kind
        → depth' ≡ depth_after (effect_of o kind) depth → Going (i + 1) depth' deepest' routine ended
    goes_on pair going depth' deepest' peak ep em low ed = subst (λ j. Going j depth' deepest' routine ended) (let n : suc i ≡ i + 1 = omega arith in n) (by (effect_of o kind) refl (depths_next kind os i o at) (owner_next kind os i o at))
      where
        by : (x : Effect) → effect_of o kind ≡ x → depths_at kind os (suc i) ≡ deeper x (open_of kind os i) (depths_at kind os i) → owner_at os (suc i) ≡ passed_by x (owner_at os i) → Going (suc i) depth' deepest' routine ended
        by Ends e f n = absurd (going e)
        by x e f n =
            let peak_x : peak ≡ peak_of x (open_of kind os i) (depths_at kind os i).ended = ep ∙ peak_is ∙ ap (λ v. peak_of v (open_of kind os i) (depths_at kind os i).ended) e in
            record {
              depth_is = ed ∙ depth_next pair;
              deep = omega (arith, em, g.deep, peak_x, ap (λ (z : Depths). z.now) f);
              low = low;
              shallow = omega (arith, ed, em, ep, shallow_by (effect_of o kind));
              routine_is = omega (arith, g.routine_is, n);
              long = g.long;
              depths = λ r h. g.depths r (omega (arith, h, n)) ∙ sym (ap (λ (z : Depths). get_or z.ended r 0) f);
              ended_low = λ r h. g.ended_low r (omega (arith, h, n));
              so_far = more os (λ p o. peak_of (effect_of o kind) (open_of kind os p) (depths_at kind os p).ended ≤ most_of kind) i o at (omega (arith, ep, em, low, peak_is)) g.so_far;
            }

    -- a Return
    pub goes_back : IsPaired os (open_at os i) o → effect_of o kind ≡ Ends → routine < 32 → (depth' deepest' peak : ℕ) → peak ≡ peak_of (effect_of o kind) depth ended → deepest' ≡ max deepest peak → deepest' ≤ most_of kind
        → depth' ≡ depth_after (effect_of o kind) depth → Going (i + 1) depth' 0 (routine + 1) (set ended routine deepest')
    goes_back pair ends room depth' deepest' peak ep em low ed =
        let f : depths_at kind os (suc i) ≡ deeper Ends (open_of kind os i) (depths_at kind os i) = depths_next kind os i o at ∙ ap (λ v. deeper v (open_of kind os i) (depths_at kind os i)) ends in
        let n : owner_at os (suc i) ≡ suc (owner_at os i) = owner_next kind os i o at ∙ ap (λ v. passed_by v (owner_at os i)) ends in
        let none : peak ≡ 0 = ep ∙ ap (λ v. peak_of v depth ended) ends in
        let same : deepest' ≡ (depths_at kind os i).now = omega (arith, em, none, g.deep) in
        let next : suc i ≡ i + 1 = omega arith in
        let inside : routine < length ended = omega (arith, room, g.long) in
        let seam : (r : ℕ) → r ≡ routine → get_or (depths_at kind os (suc i)).ended r 0 ≡ deepest' = λ r here.
        ap (λ (z : Depths). get_or z.ended r 0) f ∙ ap (λ j. get_or ((depths_at kind os i).ended ++ (depths_at kind os i).now ∷ []) j 0) (here ∙ g.routine_is ∙ sym (ended_long kind os i))
        ∙ get_or-append_seam (depths_at kind os i).ended (depths_at kind os i).now [] 0 ∙ sym same in
        let before : (r : ℕ) → r < owner_at os i → get_or (depths_at kind os (suc i)).ended r 0 ≡ get_or (depths_at kind os i).ended r 0 = λ r h.
        ap (λ (z : Depths). get_or z.ended r 0) f ∙ get_or-append (depths_at kind os i).ended ((depths_at kind os i).now ∷ []) 0 r (omega (arith, h, ended_long kind os i)) in
        let step : Going (suc i) depth' 0 (routine + 1) (set ended routine deepest') = record {
          depth_is = ed ∙ depth_next pair;
          deep = sym (ap (λ (z : Depths). z.now) f);
          low = omega arith;
          shallow = omega (arith, ed ∙ ap (λ v. depth_after v depth) ends, g.depth_is, none_at_end kind o os (open_at os i) pair ends);
          routine_is = omega (arith, n, g.routine_is);
          long = length-set ended routine deepest' ∙ g.long;
          depths = λ r h. ⊎_elim
              (λ lt. let apart : r ≢ routine = λ x. omega (arith, x, lt, g.routine_is) in get_or-set_other ended routine r deepest' 0 apart ∙ g.depths r lt ∙ sym (before r lt))
              (λ le. let here : r ≡ routine = omega (arith, le, h, n, g.routine_is) in ap (λ j. get_or (set ended routine deepest') j 0) here ∙ get_or-set_same ended routine deepest' 0 inside ∙ sym (seam r here))
              (cases_lt r (owner_at os i));
          ended_low = λ r h. ⊎_elim
              (λ lt. let apart : r ≢ routine = λ x. omega (arith, x, lt, g.routine_is) in omega (arith, get_or-set_other ended routine r deepest' 0 apart, g.ended_low r lt))
              (λ le. let here : r ≡ routine = omega (arith, le, h, n, g.routine_is) in omega (arith, ap (λ j. get_or (set ended routine deepest') j 0) here, get_or-set_same ended routine deepest' 0 inside, low))
              (cases_lt r (owner_at os i));
          so_far = more os (λ p o. peak_of (effect_of o kind) (open_of kind os p) (depths_at kind os p).ended ≤ most_of kind) i o at (omega (arith, ep, em, low, peak_is)) g.so_far;
        } in
        subst (λ j. Going j depth' 0 (routine + 1) (set ended routine deepest')) next step
