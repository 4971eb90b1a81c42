-- The routines of places, one after the other.
use Rattle.std.proofs.Common.{◌≡◌, ◌≢◌, ℕ, zero, suc, ◌+◌, ◌*◌, ◌<◌, ◌≤◌, min, List, [], ◌∷◌, ◌++◌, length, get_or, set, Some, refl, sym, ap, ◌∙◌, subst, ⊎_elim, arith}
use Rattle.std.specs.Prelude.{slice_get}
use Rattle.std.proofs.Math.Nat.{mul-le-mul_left, mul_comm, mul-one}
use Rattle.std.proofs.Math.Seq.{get_or-append_seam}
use Rattle.std.proofs.Math.ListN.{get_or-append}
use Rattle.std.proofs.lemmas.Bool.{cases_lt}
use Rattle.std.proofs.lemmas.List.{get_or-set_same, get_or-set_other}
use Rattle.frame_code.specs.declared.Op.{Op}
use Rattle.frame_code.specs.declared.Op.TheVariants.{Halt, Send, Alt, SetGap, Loop, Again, Leave, Jump, Test, JumpFalse, Call, Return, Begin, Pace}
use Rattle.frame_code.specs.Routines.{routines, begin_of, passed, owner_at}
use Rattle.frame_code.specs.Loadable.{CallsEarlier}
use Rattle.frame_load.specs.Budget.{weight, Sums, cost_called, sums_after, sums_at}
use Rattle.frame_load.proofs.Opened.{within, routine_le, behind_at}
use Rattle.frame_load.proofs.Weights.{sums_long}

owner_step : (o : Op) (k : ℕ) → passed (Some o) k ≤ suc k
owner_step Return k = omega arith
owner_step _ k = omega arith

at_next : (os : List Op) (i : ℕ) (o : Op) → slice_get os i ≡ Some o → owner_at os (i + 1) ≡ passed (Some o) (owner_at os i)
at_next os i o at = (let s : i + 1 ≡ suc i = omega arith in ap (owner_at os) s) ∙ ap (λ v. passed v (owner_at os i)) at

pub next_owner : (os : List Op) (i : ℕ) (o : Op) (k n : ℕ) → slice_get os i ≡ Some o → k ≡ owner_at os i → n ≡ passed (Some o) k → (n ≡ owner_at os (i + 1)) × (n ≤ suc k)
next_owner os i o k n at e f = (f ∙ ap (passed (Some o)) e ∙ sym (at_next os i o at), omega (arith, f, owner_step o k))

pub same_owner : (os : List Op) (i : ℕ) (o : Op) → slice_get os i ≡ Some o → (o ≡ Return → ⊥) → owner_at os (i + 1) ≡ owner_at os i
same_owner os i o at h = at_next os i o at ∙ by o h
  where
    by : (o : Op) → (o ≡ Return → ⊥) → passed (Some o) (owner_at os i) ≡ owner_at os i
    by Return h = absurd (h refl)
    by _ h = refl

pub up_owner : (os : List Op) (i : ℕ) → slice_get os i ≡ Some Return → owner_at os (i + 1) ≡ owner_at os i + 1
up_owner os i at = at_next os i Return at ∙ (omega arith)

pub more_earlier : (os : List Op) (i : ℕ) (o : Op) → slice_get os i ≡ Some o → CallsEarlier (owner_at os i) o → ((p : ℕ) (o : Op) → p < i → slice_get os p ≡ Some o → CallsEarlier (owner_at os p) o)
    → (p : ℕ) (o : Op) → p < i + 1 → slice_get os p ≡ Some o → CallsEarlier (owner_at os p) o
more_earlier os i o at here below p o' h e =
    ⊎_elim (λ lt. below p o' lt e)
    (λ le. let same : i ≡ p = omega (arith, le, h) in let one : o ≡ o' = let x : Some o ≡ Some o' = sym at ∙ ap (slice_get os) same ∙ e in cc in
    subst (λ v. CallsEarlier (owner_at os p) v) one (subst (λ v. CallsEarlier (owner_at os v) o) same here)) (cases_lt p i)

-- where the routines begin, so far
abbrev pub StartsSoFar : List Op → ℕ → List ℕ → Type 0
StartsSoFar os i starts = (p : ℕ) → p < i → slice_get os p ≡ Some Return → get_or starts (suc (owner_at os p)) 0 ≡ suc p

pub one_start : (os : List Op) (i k : ℕ) (starts : List ℕ) → slice_get os i ≡ Some Return → k ≡ owner_at os i → k + 1 < length starts → StartsSoFar os i starts → StartsSoFar os (i + 1) (set starts (k + 1) (i + 1))
one_start os i k starts at e inside below p h r =
    ⊎_elim (λ lt.
    let up = routine_le os (suc p) i lt in
    let next : owner_at os (suc p) ≡ suc (owner_at os p) = ap (λ v. passed v (owner_at os p)) r in
    let apart : suc (owner_at os p) ≢ k + 1 = λ x. omega (arith, x, up, next, e) in
    get_or-set_other starts (k + 1) (suc (owner_at os p)) (i + 1) 0 apart ∙ below p lt r)
    (λ le.
    let same : p ≡ i = omega (arith, le, h) in
    let here : suc (owner_at os p) ≡ k + 1 = omega (arith, e, ap (owner_at os) same) in
    ap (λ j. get_or (set starts (k + 1) (i + 1)) j 0) here ∙ get_or-set_same starts (k + 1) (i + 1) 0 inside ∙ (omega (arith, same)))
    (cases_lt p i)

pub no_start : (os : List Op) (i : ℕ) (o : Op) (starts : List ℕ) → slice_get os i ≡ Some o → (o ≡ Return → ⊥) → StartsSoFar os i starts → StartsSoFar os (i + 1) starts
no_start os i o starts at h below p l r =
    ⊎_elim (λ lt. below p lt r)
    (λ le. let same : p ≡ i = omega (arith, le, l) in absurd (h (let x : Some o ≡ Some Return = sym at ∙ ap (slice_get os) (sym same) ∙ r in cc))) (cases_lt p i)

pub starts_are : (os : List Op) (starts : List ℕ) → get_or starts 0 0 ≡ 0 → StartsSoFar os (length os) starts → (r : ℕ) → r ≤ routines os → get_or starts r 0 ≡ begin_of os r
starts_are os starts z all zero h = z
starts_are os starts z all (suc r) h =
    let i = behind_at 0 os r (omega (arith, h)) in
    ap (λ k. get_or starts (suc k) 0) (sym i.3) ∙ all i.0 (within os i.0 Return i.2) i.2 ∙ (omega (arith, i.1))

-- sums that are cut at a cap
product : (c w x y : ℕ) → 1 ≤ x → c ≤ w → c ≤ w * x
product c w x y h l = omega (arith, mul-le-mul_left w h, mul-one w, l)

pub capped_sum : (cap a w c t w' t' : ℕ) → 1 ≤ cap → w' ≡ min cap w → t' ≡ min cap t → min (min cap a + w' * (c + t')) cap ≡ min cap (a + w * (c + t))
capped_sum cap a w c t w' t' one ew et =
    ⊎_elim (λ small.
    let e : w' ≡ w = omega (arith, ew, small) in
    ⊎_elim (λ less. let f : t' ≡ t = omega (arith, et, less) in omega (arith, ap (λ v. v * (c + t')) e, ap (λ v. w * (c + v)) f))
    (λ more. let f : t' ≡ cap = omega (arith, et, more) in by_weight w e f more) (cases_lt t cap))
    (λ large. let e : w' ≡ cap = omega (arith, ew, large) in by_cost (c + t) refl e large) (cases_lt w cap)
  where
    by_weight : (v : ℕ) → w' ≡ v → t' ≡ cap → cap ≤ t → min (min cap a + w' * (c + t')) cap ≡ min cap (a + v * (c + t))
    by_weight zero e f more = omega (arith, ap (λ x. x * (c + t')) e)
    by_weight (suc v) e f more =
        let p : cap ≤ (c + t') * suc v = product cap (c + t') (suc v) 0 (omega arith) (omega (arith, f)) in
        let q : cap ≤ (c + t) * suc v = product cap (c + t) (suc v) 0 (omega arith) (omega (arith, more)) in
        omega (arith, p, q, mul_comm (c + t') (suc v), mul_comm (c + t) (suc v), ap (λ x. x * (c + t')) e)

    by_cost : (k : ℕ) → c + t ≡ k → w' ≡ cap → cap ≤ w → min (min cap a + w' * (c + t')) cap ≡ min cap (a + w * (c + t))
    by_cost zero e f large =
        let none : c + t' ≡ 0 = omega (arith, et, e) in
        omega (arith, ap (λ x. w' * x) none, ap (λ x. w * x) e, mul_comm w' 0, mul_comm w 0)
    by_cost (suc k) e f large =
        let some : 1 ≤ c + t' = omega (arith, et, e, one) in
        let p : cap ≤ w' * (c + t') = product cap w' (c + t') 0 some (omega (arith, f)) in
        let q : cap ≤ w * (c + t) = product cap w (c + t) 0 (omega (arith, e)) large in
        omega (arith, p, q)

module _ (cap : ℕ) (some : 1 ≤ cap) (cost : Op → ℕ) (os : List Op) where
  -- the sums of the routines that ended, each cut at the cap
  abbrev pub EndedSums : ℕ → List ℕ → Type 0
  EndedSums i ended = (r : ℕ) → r < owner_at os i → get_or ended r 0 ≡ min cap (get_or (sums_at cost os i).ended r 0)

  pub sums_next : (i : ℕ) (o : Op) → slice_get os i ≡ Some o → sums_at cost os (i + 1) ≡ sums_after cost (Some o) (weight os i) (sums_at cost os i)
  sums_next i o at = (let s : i + 1 ≡ suc i = omega arith in ap (sums_at cost os) s) ∙ ap (λ v. sums_after cost v (weight os i) (sums_at cost os i)) at

  pub one_sum : (i k x : ℕ) (ended : List ℕ) → slice_get os i ≡ Some Return → k ≡ owner_at os i → k < length ended → x ≡ min cap ((sums_at cost os i).now + weight os i * cost Return) → EndedSums i ended → EndedSums (i + 1) (set ended k x)
  one_sum i k x ended at e inside is below r h =
      let s = sums_at cost os i in
      let y = s.now + weight os i * cost Return in
      let next : (sums_at cost os (i + 1)).ended ≡ s.ended ++ y ∷ [] = ap (λ (z : Sums). z.ended) (sums_next i Return at) in
      ⊎_elim (λ lt.
      let apart : r ≢ k = λ z. omega (arith, z, lt, e) in
      get_or-set_other ended k r x 0 apart ∙ below r lt ∙ ap (min cap) (sym (ap (λ ds. get_or ds r 0) next ∙ get_or-append s.ended (y ∷ []) 0 r (omega (arith, lt, sums_long cost os i)))))
      (λ le.
      let same : r ≡ k = omega (arith, le, h, up_owner os i at, e) in
      ap (λ j. get_or (set ended k x) j 0) same ∙ get_or-set_same ended k x 0 inside ∙ is
      ∙ ap (min cap) (sym (ap (λ ds. get_or ds r 0) next ∙ ap (λ j. get_or (s.ended ++ y ∷ []) j 0) (same ∙ e ∙ sym (sums_long cost os i)) ∙ get_or-append_seam s.ended y [] 0)))
      (cases_lt r (owner_at os i))

  kept_sums : (o : Op) (w : ℕ) (s : Sums) → (o ≡ Return → ⊥) → (sums_after cost (Some o) w s).ended ≡ s.ended
  kept_sums Return w s h = absurd (h refl)
  kept_sums _ w s h = refl

  pub no_sum : (i : ℕ) (o : Op) (ended : List ℕ) → slice_get os i ≡ Some o → (o ≡ Return → ⊥) → EndedSums i ended → EndedSums (i + 1) ended
  no_sum i o ended at h below r l =
      below r (omega (arith, l, same_owner os i o at h)) ∙ ap (λ ds. min cap (get_or ds r 0)) (sym (ap (λ (z : Sums). z.ended) (sums_next i o at) ∙ kept_sums o (weight os i) (sums_at cost os i) h))

  -- what a Call's routine costs, cut at the cap
  pub called_capped : (i c : ℕ) (o : Op) (ended : List ℕ) → c ≡ cost_called o ended → CallsEarlier (owner_at os i) o → EndedSums i ended → c ≡ min cap (cost_called o (sums_at cost os i).ended)
  called_capped i c (Call r) ended e h below = e ∙ below r h
  called_capped i c Halt ended e h below = omega (arith, e)
  called_capped i c (Send m) ended e h below = omega (arith, e)
  called_capped i c (Alt m) ended e h below = omega (arith, e)
  called_capped i c (SetGap t) ended e h below = omega (arith, e)
  called_capped i c (Loop n) ended e h below = omega (arith, e)
  called_capped i c (Again k) ended e h below = omega (arith, e)
  called_capped i c (Leave k) ended e h below = omega (arith, e)
  called_capped i c (Jump k) ended e h below = omega (arith, e)
  called_capped i c (Test k) ended e h below = omega (arith, e)
  called_capped i c (JumpFalse k) ended e h below = omega (arith, e)
  called_capped i c Return ended e h below = omega (arith, e)
  called_capped i c Begin ended e h below = omega (arith, e)
  called_capped i c (Pace t) ended e h below = omega (arith, e)

  now_sums : (o : Op) (w : ℕ) (s : Sums) → (o ≡ Return → ⊥) → (sums_after cost (Some o) w s).now ≡ s.now + w * (cost o + cost_called o s.ended)
  now_sums Return w s h = absurd (h refl)
  now_sums _ w s h = refl

  pub now_is : (i : ℕ) (o : Op) (now now' w c : ℕ) → slice_get os i ≡ Some o → (o ≡ Return → ⊥) → now ≡ min cap (sums_at cost os i).now → w ≡ min cap (weight os i) → c ≡ min cap (cost_called o (sums_at cost os i).ended)
      → now' ≡ min (now + w * (cost o + c)) cap → now' ≡ min cap (sums_at cost os (i + 1)).now
  now_is i o now now' w c at h en ew ec is =
      is ∙ ap (λ z. min (z + w * (cost o + c)) cap) en ∙ capped_sum cap (sums_at cost os i).now (weight os i) (cost o) (cost_called o (sums_at cost os i).ended) w c some ew ec
      ∙ ap (min cap) (sym (ap (λ (z : Sums). z.now) (sums_next i o at) ∙ now_sums o (weight os i) (sums_at cost os i) h))

  pub end_is : (i now now' w c : ℕ) → slice_get os i ≡ Some Return → now ≡ min cap (sums_at cost os i).now → w ≡ min cap (weight os i) → c ≡ 0 → now' ≡ min (now + w * (cost Return + c)) cap
      → now' ≡ min cap ((sums_at cost os i).now + weight os i * cost Return)
  end_is i now now' w c at en ew ec is =
      let plain : cost Return + 0 ≡ cost Return = omega arith in
      is ∙ ap (λ z. min (z + w * (cost Return + c)) cap) en ∙ capped_sum cap (sums_at cost os i).now (weight os i) (cost Return) 0 w c some ew (omega (arith, ec)) ∙ ap (λ z. min cap ((sums_at cost os i).now + weight os i * z)) plain
