-- What is left at the start is at most the sum of the weights.
use Rattle.std.proofs.Common.{◌≡◌, ℕ, zero, suc, ◌+◌, ◌-◌, ◌*◌, ◌<◌, ◌≤◌, List, [], ◌∷◌, ◌++◌, length, get_or, drop, Option, Some, None, refl, sym, ap, ◌∙◌, subst, arith, length-append}
use Rattle.std.proofs.Math.Nat.{mul-add, add-mul, mul_comm, mul_assoc, mul-zero, mul-le-mul_left}
use Rattle.std.proofs.lemmas.List.{drop_all}
use Rattle.std.proofs.Math.Seq.{get_or-append_seam}
use Rattle.std.proofs.Math.ListN.{get_or-append}
use Rattle.std.specs.Prelude.{slice_get}
use Rattle.frame_code.specs.declared.Op.{Op}
use Rattle.frame_code.specs.declared.Op.TheVariants.{Halt, Send, Alt, SetGap, Loop, Again, Leave, Jump, Test, JumpFalse, Call, Return, Begin, Pace}
use Rattle.frame_code.specs.Table.{Code}
use Rattle.frame_code.specs.Routines.{passed, owner_at}
use Rattle.frame_code.specs.Ranges.{AreInRange}
use Rattle.frame_code.specs.Loadable.{after, open_at, Each, CallsEarlier, IsLoadable}
use Rattle.frame_load.specs.Budget.{turns_of, weight_in, weight, Sums, cost_called, sums_after, sums_at}
use Rattle.frame_load.proofs.Left.{inner, turn, rest}
use Rattle.frame_load.proofs.Opened.{there, IsReturn, same_routine, next_up, routine_le}
use Rattle.frame_load.proofs.Steps.{drop_at}
use Rattle.frame_load.proofs.Marks.{count_of}

-- the weights of the insides of the open brackets, the innermost first, and of what is outside them; behind the innermost
abbrev popped : ℕ → List ℕ → List ℕ
popped w [] = w ∷ []
popped w (v ∷ ws) = v ∷ ws

module _ (cost : Op → ℕ) where
  -- the weighted sum over a code, where the place has these weights
  abbrev pub summed : List ℕ → List Op → ℕ
  summed ws [] = 0
  summed [] (o ∷ os) = 0
  summed (w ∷ ws) (Loop n ∷ os) = w * cost (Loop n) + summed (n * w ∷ w ∷ ws) os
  summed (w ∷ ws) (Again i ∷ os) = w * cost (Again i) + summed (popped w ws) os
  summed (w ∷ ws) (Begin ∷ os) = w * cost Begin + summed (1 * w ∷ w ∷ ws) os
  summed (w ∷ ws) (Pace h ∷ os) = w * cost (Pace h) + summed (popped w ws) os
  summed (w ∷ ws) (Return ∷ os) = w * cost Return
  summed (w ∷ ws) (o ∷ os) = w * cost o + summed (w ∷ ws) os

  -- each of the first is one of the second and c times one of the third
  abbrev Mixed : ℕ → List ℕ → List ℕ → List ℕ → Type 0
  Mixed c [] [] [] = Unit {0}
  Mixed c (w ∷ ws) (u ∷ us) (v ∷ vs) = (w ≡ u + c * v) × Mixed c ws us vs
  Mixed c _ _ _ = ⊥

  mixed_popped : (c w u v : ℕ) (ws us vs : List ℕ) → Mixed c (w ∷ ws) (u ∷ us) (v ∷ vs) → Mixed c (popped w ws) (popped u us) (popped v vs)
  mixed_popped c w u v [] [] [] m = m
  mixed_popped c w u v [] [] (z ∷ vs) m = absurd m.1
  mixed_popped c w u v [] (y ∷ us) [] m = absurd m.1
  mixed_popped c w u v [] (y ∷ us) (z ∷ vs) m = absurd m.1
  mixed_popped c w u v (x ∷ ws) [] [] m = absurd m.1
  mixed_popped c w u v (x ∷ ws) [] (z ∷ vs) m = absurd m.1
  mixed_popped c w u v (x ∷ ws) (y ∷ us) [] m = absurd m.1
  mixed_popped c w u v (x ∷ ws) (y ∷ us) (z ∷ vs) m = m.1

  times_mixed : (n c w u v : ℕ) → w ≡ u + c * v → n * w ≡ n * u + c * (n * v)
  times_mixed n c w u v e = ap (λ x. n * x) e ∙ mul-add n u (c * v) ∙ ap (λ x. n * u + x) (sym (mul_assoc n c v) ∙ ap (λ x. x * v) (mul_comm n c) ∙ mul_assoc c n v)

  paid_mixed : (k c w u v : ℕ) → w ≡ u + c * v → w * k ≡ u * k + c * (v * k)
  paid_mixed k c w u v e = ap (λ x. x * k) e ∙ add-mul u (c * v) k ∙ ap (λ x. u * k + x) (mul_assoc c v k)

  join : (c a a1 a2 b b1 b2 : ℕ) → a ≡ a1 + c * a2 → b ≡ b1 + c * b2 → a + b ≡ (a1 + b1) + c * (a2 + b2)
  join c a a1 a2 b b1 b2 e f = omega (arith, e, f, mul-add c a2 b2)

  linear : (c : ℕ) (os : List Op) (ws us vs : List ℕ) → Mixed c ws us vs → summed ws os ≡ summed us os + c * summed vs os
  linear c [] ws us vs m = omega (arith, mul-zero c)
  linear c (o ∷ os) [] [] [] m = omega (arith, mul-zero c)
  linear c (o ∷ os) [] [] (v ∷ vs) m = absurd m
  linear c (o ∷ os) [] (u ∷ us) vs m = absurd m
  linear c (o ∷ os) (w ∷ ws) [] vs m = absurd m
  linear c (o ∷ os) (w ∷ ws) (u ∷ us) [] m = absurd m
  linear c (Loop n ∷ os) (w ∷ ws) (u ∷ us) (v ∷ vs) m = join c _ _ _ _ _ _ (paid_mixed (cost (Loop n)) c w u v m.0) (linear c os (n * w ∷ w ∷ ws) (n * u ∷ u ∷ us) (n * v ∷ v ∷ vs) (times_mixed n c w u v m.0, m))
  linear c (Again i ∷ os) (w ∷ ws) (u ∷ us) (v ∷ vs) m = join c _ _ _ _ _ _ (paid_mixed (cost (Again i)) c w u v m.0) (linear c os (popped w ws) (popped u us) (popped v vs) (mixed_popped c w u v ws us vs m))
  linear c (Begin ∷ os) (w ∷ ws) (u ∷ us) (v ∷ vs) m = join c _ _ _ _ _ _ (paid_mixed (cost Begin) c w u v m.0) (linear c os (1 * w ∷ w ∷ ws) (1 * u ∷ u ∷ us) (1 * v ∷ v ∷ vs) (times_mixed 1 c w u v m.0, m))
  linear c (Pace h ∷ os) (w ∷ ws) (u ∷ us) (v ∷ vs) m = join c _ _ _ _ _ _ (paid_mixed (cost (Pace h)) c w u v m.0) (linear c os (popped w ws) (popped u us) (popped v vs) (mixed_popped c w u v ws us vs m))
  linear c (Return ∷ os) (w ∷ ws) (u ∷ us) (v ∷ vs) m = paid_mixed (cost Return) c w u v m.0
  linear c (o ∷ os) (w ∷ ws) (u ∷ us) (v ∷ vs) m = join c _ _ _ _ _ _ (paid_mixed (cost o) c w u v m.0) (linear c os (w ∷ ws) (u ∷ us) (v ∷ vs) m)

  zeros : List ℕ → List ℕ
  zeros [] = []
  zeros (w ∷ ws) = 0 ∷ zeros ws

  unmixed : (c : ℕ) (ws : List ℕ) → Mixed c ws ws (zeros ws)
  unfolding zeros
  unmixed c [] = tt
  unmixed c (w ∷ ws) = (omega (arith, mul-zero c), unmixed c ws)

  -- what the turns that are left cost
  abbrev owed : List (ℕ × ℕ) → ℕ
  owed [] = 0
  owed (x ∷ xs) = (x.0 - 1) * x.1 + owed xs

  -- weight 1 within these brackets
  abbrev Within : List (ℕ × ℕ) → List ℕ → Type 0
  Within [] (w ∷ ws) = Unit {0}
  Within (x ∷ xs) (w ∷ ws) = (w ≡ 1) × Within xs ws
  Within xs [] = ⊥

  opened_once : (n : ℕ) (os : List Op) (ws : List ℕ) → 1 ≤ n → turn cost os ≤ summed (1 ∷ 0 ∷ zeros ws) os → summed (1 ∷ 1 ∷ ws) os + (n - 1) * turn cost os ≤ summed (n * 1 ∷ 1 ∷ ws) os
  opened_once n os ws h le =
      let c = n - 1 in
      let m : Mixed c (n * 1 ∷ 1 ∷ ws) (1 ∷ 1 ∷ ws) (1 ∷ 0 ∷ zeros ws) = (omega (arith, h), (omega (arith, mul-zero c), unmixed c ws)) in
      omega (arith, linear c os (n * 1 ∷ 1 ∷ ws) (1 ∷ 1 ∷ ws) (1 ∷ 0 ∷ zeros ws) m, mul-le-mul_left c le)

  inner_summed : (os : List Op) (xs : List (ℕ × ℕ)) (ws : List ℕ) → AreInRange os → Within xs ws → inner cost xs os ≤ summed ws os + owed xs
  inner_summed [] xs ws r h = omega arith
  inner_summed (o ∷ os) [] ws r h = omega arith
  inner_summed (o ∷ os) (x ∷ xs) [] r h = absurd h
  inner_summed (Loop n ∷ os) (x ∷ xs) (w ∷ ws) r h =
      let b = inner_summed os ((n, turn cost os) ∷ x ∷ xs) (1 ∷ w ∷ ws) r.1 (refl, h) in
      let t = inner_summed os ((1, 0) ∷ []) (1 ∷ 0 ∷ zeros ws) r.1 (refl, tt) in
      let one : w ≡ 1 = h.0 in
      let b' : inner cost ((n, turn cost os) ∷ x ∷ xs) os ≤ summed (1 ∷ 1 ∷ ws) os + ((n - 1) * turn cost os + owed (x ∷ xs)) = subst (λ v. inner cost ((n, turn cost os) ∷ x ∷ xs) os ≤ summed (1 ∷ v ∷ ws) os + ((n - 1) * turn cost os + owed (x ∷ xs))) one b in
      omega (arith, b', opened_once n os ws (count_of n r.0) (omega (arith, t)), ap (λ v. v * cost (Loop n) + summed (n * v ∷ v ∷ ws) os) one)
  inner_summed (Again i ∷ os) (x ∷ []) (w ∷ []) r h = absurd h.1
  inner_summed (Again i ∷ os) (x ∷ y ∷ xs) (w ∷ []) r h = absurd h.1
  inner_summed (Again i ∷ os) (x ∷ xs) (w ∷ v ∷ ws) r h = omega (arith, inner_summed os xs (v ∷ ws) r.1 h.1, ap (λ v. v * cost (Again i)) h.0)
  inner_summed (Begin ∷ os) (x ∷ xs) (w ∷ ws) r h = omega (arith, inner_summed os ((1, 0) ∷ x ∷ xs) (1 * w ∷ w ∷ ws) r.1 (omega (arith, h.0), h), ap (λ v. v * cost Begin) h.0)
  inner_summed (Pace t ∷ os) (x ∷ []) (w ∷ []) r h = absurd h.1
  inner_summed (Pace t ∷ os) (x ∷ y ∷ xs) (w ∷ []) r h = absurd h.1
  inner_summed (Pace t ∷ os) (x ∷ xs) (w ∷ v ∷ ws) r h = omega (arith, inner_summed os xs (v ∷ ws) r.1 h.1, ap (λ v. v * cost (Pace t)) h.0)
  inner_summed (Return ∷ os) (x ∷ xs) (w ∷ ws) r h = omega (arith, ap (λ v. v * cost Return) h.0)
  inner_summed (o ∷ os) (x ∷ xs) (w ∷ ws) r h = omega (arith, inner_summed os (x ∷ xs) (w ∷ ws) r.1 h, ap (λ v. v * cost o) h.0)

  -- weight 1 everywhere
  abbrev Outer : List (ℕ × ℕ) → List ℕ → Type 0
  Outer [] (w ∷ []) = w ≡ 1
  Outer (x ∷ xs) (w ∷ ws) = (w ≡ 1) × Outer xs ws
  Outer _ _ = ⊥

  head_one : (xs : List (ℕ × ℕ)) (w : ℕ) (ws : List ℕ) → Outer xs (w ∷ ws) → w ≡ 1
  head_one [] w [] h = h
  head_one [] w (v ∷ ws) h = absurd h
  head_one (x ∷ xs) w ws h = h.0

  rest_summed : (os : List Op) (xs : List (ℕ × ℕ)) (ws : List ℕ) → AreInRange os → Outer xs ws → rest cost xs os ≤ summed ws os + owed xs
  rest_summed [] xs ws r h = omega arith
  rest_summed (o ∷ os) [] [] r h = absurd h
  rest_summed (o ∷ os) (x ∷ xs) [] r h = absurd h
  rest_summed (Loop n ∷ os) xs (w ∷ ws) r h =
      let one : w ≡ 1 = head_one xs w ws h in
      let b = rest_summed os ((n, turn cost os) ∷ xs) (1 ∷ w ∷ ws) r.1 (refl, h) in
      let t = inner_summed os ((1, 0) ∷ []) (1 ∷ 0 ∷ zeros ws) r.1 (refl, tt) in
      let b' : rest cost ((n, turn cost os) ∷ xs) os ≤ summed (1 ∷ 1 ∷ ws) os + ((n - 1) * turn cost os + owed xs) = subst (λ v. rest cost ((n, turn cost os) ∷ xs) os ≤ summed (1 ∷ v ∷ ws) os + ((n - 1) * turn cost os + owed xs)) one b in
      omega (arith, b', opened_once n os ws (count_of n r.0) (omega (arith, t)), ap (λ v. v * cost (Loop n) + summed (n * v ∷ v ∷ ws) os) one)
  rest_summed (Again i ∷ os) [] (w ∷ []) r h = omega (arith, rest_summed os [] (w ∷ []) r.1 h, ap (λ v. v * cost (Again i)) h)
  rest_summed (Again i ∷ os) [] (w ∷ v ∷ ws) r h = absurd h
  rest_summed (Again i ∷ os) (x ∷ []) (w ∷ []) r h = absurd h.1
  rest_summed (Again i ∷ os) (x ∷ y ∷ xs) (w ∷ []) r h = absurd h.1
  rest_summed (Again i ∷ os) (x ∷ xs) (w ∷ v ∷ ws) r h = omega (arith, rest_summed os xs (v ∷ ws) r.1 h.1, ap (λ v. v * cost (Again i)) h.0)
  rest_summed (Begin ∷ os) xs (w ∷ ws) r h =
      let one : w ≡ 1 = head_one xs w ws h in
      omega (arith, rest_summed os ((1, 0) ∷ xs) (1 * w ∷ w ∷ ws) r.1 (omega (arith, one), h), ap (λ v. v * cost Begin) one)
  rest_summed (Pace t ∷ os) [] (w ∷ []) r h = omega (arith, rest_summed os [] (w ∷ []) r.1 h, ap (λ v. v * cost (Pace t)) h)
  rest_summed (Pace t ∷ os) [] (w ∷ v ∷ ws) r h = absurd h
  rest_summed (Pace t ∷ os) (x ∷ []) (w ∷ []) r h = absurd h.1
  rest_summed (Pace t ∷ os) (x ∷ y ∷ xs) (w ∷ []) r h = absurd h.1
  rest_summed (Pace t ∷ os) (x ∷ xs) (w ∷ v ∷ ws) r h = omega (arith, rest_summed os xs (v ∷ ws) r.1 h.1, ap (λ v. v * cost (Pace t)) h.0)
  rest_summed (Return ∷ os) xs (w ∷ ws) r h = omega (arith, ap (λ v. v * cost Return) (head_one xs w ws h))
  rest_summed (o ∷ os) xs (w ∷ ws) r h = omega (arith, rest_summed os xs (w ∷ ws) r.1 h, ap (λ v. v * cost o) (head_one xs w ws h))

  module _ (os : List Op) where
    abbrev pub weights_of : List ℕ → List ℕ
    weights_of [] = 1 ∷ []
    weights_of (s ∷ st) = weight_in os (s ∷ st) ∷ weights_of st

    summed_at : (o : Op) (p : ℕ) (st : List ℕ) (ds : List Op) → slice_get os p ≡ Some o → (IsReturn o → ⊥) → summed (weights_of st) (o ∷ ds) ≡ weight_in os st * cost o + summed (weights_of (after (Some o) p st)) ds
    summed_at (Loop n) p [] ds e g = ap (λ v. 1 * cost (Loop n) + summed (turns_of v * 1 ∷ 1 ∷ []) ds) (sym e)
    summed_at (Loop n) p (s ∷ st) ds e g = ap (λ v. weight_in os (s ∷ st) * cost (Loop n) + summed (turns_of v * weight_in os (s ∷ st) ∷ weight_in os (s ∷ st) ∷ weights_of st) ds) (sym e)
    summed_at (Again i) p [] ds e g = refl
    summed_at (Again i) p (s ∷ []) ds e g = refl
    summed_at (Again i) p (s ∷ t ∷ st) ds e g = refl
    summed_at Begin p [] ds e g = ap (λ v. 1 * cost Begin + summed (turns_of v * 1 ∷ 1 ∷ []) ds) (sym e)
    summed_at Begin p (s ∷ st) ds e g = ap (λ v. weight_in os (s ∷ st) * cost Begin + summed (turns_of v * weight_in os (s ∷ st) ∷ weight_in os (s ∷ st) ∷ weights_of st) ds) (sym e)
    summed_at (Pace h) p [] ds e g = refl
    summed_at (Pace h) p (s ∷ []) ds e g = refl
    summed_at (Pace h) p (s ∷ t ∷ st) ds e g = refl
    summed_at Return p st ds e g = absurd (g tt)
    summed_at _ p [] ds e g = refl
    summed_at _ p (s ∷ st) ds e g = refl

    summed_end : (st : List ℕ) (ds : List Op) → summed (weights_of st) (Return ∷ ds) ≡ weight_in os st * cost Return
    summed_end [] ds = refl
    summed_end (s ∷ st) ds = refl

-- the sums of all routines, that of the main part last
abbrev pub all_sums : (Op → ℕ) → List Op → List ℕ
all_sums cost os = (sums_at cost os (length os)).ended ++ (sums_at cost os (length os)).now ∷ []

-- what an operation costs together with what it calls
abbrev pub price : (Op → ℕ) → List Op → Op → ℕ
price cost os o = cost o + cost_called o (all_sums cost os)

module _ (cost : Op → ℕ) (os : List Op) where
  at_op : (p : ℕ) (o : Op) → slice_get os p ≡ Some o → sums_at cost os (suc p) ≡ sums_after cost (Some o) (weight os p) (sums_at cost os p)
  at_op p o e = ap (λ v. sums_after cost v (weight os p) (sums_at cost os p)) e

  long_step : (v : Option Op) (w k : ℕ) (s : Sums) → length s.ended ≡ k → length (sums_after cost v w s).ended ≡ passed v k
  long_step None w k s e = e
  long_step (Some Return) w k s e = omega (arith, e, length-append s.ended ((s.now + w * cost Return) ∷ []))
  long_step (Some _) w k s e = e

  pub sums_long : (p : ℕ) → length (sums_at cost os p).ended ≡ owner_at os p
  sums_long zero = refl
  sums_long (suc p) = long_step (slice_get os p) (weight os p) (owner_at os p) (sums_at cost os p) (sums_long p)

  kept_step : (v : Option Op) (w r : ℕ) (s : Sums) → r < length s.ended → get_or (sums_after cost v w s).ended r 0 ≡ get_or s.ended r 0
  kept_step None w r s h = refl
  kept_step (Some Return) w r s h = get_or-append s.ended ((s.now + w * cost Return) ∷ []) 0 r h
  kept_step (Some _) w r s h = refl

  kept : (d p r : ℕ) → p + d ≡ length os → r < owner_at os p → get_or (all_sums cost os) r 0 ≡ get_or (sums_at cost os p).ended r 0
  kept zero p r e h =
      let all : length os ≡ p = omega (arith, e) in
      get_or-append (sums_at cost os (length os)).ended ((sums_at cost os (length os)).now ∷ []) 0 r (omega (arith, h, sums_long (length os), ap (owner_at os) all)) ∙ ap (λ q. get_or (sums_at cost os q).ended r 0) all
  kept (suc d) p r e h =
      kept d (suc p) r (omega (arith, e)) (omega (arith, h, routine_le os p (suc p) (omega arith)))
      ∙ kept_step (slice_get os p) (weight os p) r (sums_at cost os p) (omega (arith, h, sums_long p))

  -- what the routine of a Call costs is known at the Call
  called_is : (p : ℕ) (o : Op) → p ≤ length os → CallsEarlier (owner_at os p) o → cost_called o (all_sums cost os) ≡ cost_called o (sums_at cost os p).ended
  called_is p (Call r) le h = kept (length os - p) p r (omega (arith, le)) h
  called_is p _ le h = refl

  abbrev Sums_up : ℕ → Type 0
  Sums_up p = (sums_at cost os p).now + summed (price cost os) (weights_of (price cost os) os (open_at os p)) (drop p os) ≡ get_or (all_sums cost os) (owner_at os p) 0

  -- an operation that ends no routine
  goes_up : (p : ℕ) (o : Op) → slice_get os p ≡ Some o → (IsReturn o → ⊥) → suc p ≤ length os → CallsEarlier (owner_at os p) o
      → (sums_after cost (Some o) (weight os p) (sums_at cost os p)).now ≡ (sums_at cost os p).now + weight os p * (cost o + cost_called o (sums_at cost os p).ended) → Sums_up (suc p) → Sums_up p
  goes_up p o e g le h s more =
      let next : open_at os (suc p) ≡ after (Some o) p (open_at os p) = ap (λ v. after v p (open_at os p)) e in
      omega (
        arith,
        more,
        s,
        ap (λ (z : Sums). z.now) (at_op p o e),
        ap (summed (price cost os) (weights_of (price cost os) os (open_at os p))) (drop_at os p o e),
        summed_at (price cost os) os o p (open_at os p) (drop (suc p) os) e g,
        ap (λ v. weight os p * (cost o + v)) (called_is p o (omega (arith, le)) h),
        ap (λ st. summed (price cost os) (weights_of (price cost os) os st) (drop (suc p) os)) next,
        ap (λ k. get_or (all_sums cost os) k 0) (same_routine os p o e g),
      )

  ends_here : (p : ℕ) → slice_get os p ≡ Some Return → suc p ≤ length os → Sums_up p
  ends_here p e le =
      let s = sums_at cost os p in
      let k = owner_at os p in
      let x = s.now + weight os p * cost Return in
      let here : get_or (all_sums cost os) k 0 ≡ get_or (s.ended ++ x ∷ []) k 0 = kept (length os - suc p) (suc p) k (omega (arith, le)) (omega (arith, next_up os p e)) ∙ ap (λ (z : Sums). get_or z.ended k 0) (at_op p Return e) in
      let seam : get_or (s.ended ++ x ∷ []) k 0 ≡ x = ap (λ j. get_or (s.ended ++ x ∷ []) j 0) (sym (sums_long p)) ∙ get_or-append_seam s.ended x [] 0 in
      let alone : price cost os Return ≡ cost Return = omega arith in
      omega (
        arith,
        here,
        seam,
        ap (summed (price cost os) (weights_of (price cost os) os (open_at os p))) (drop_at os p Return e),
        summed_end (price cost os) os (open_at os p) (drop (suc p) os),
        ap (λ v. weight os p * v) alone,
      )

  up_by : (p : ℕ) (o : Op) → slice_get os p ≡ Some o → suc p ≤ length os → CallsEarlier (owner_at os p) o → Sums_up (suc p) → Sums_up p
  up_by p Return e le h more = ends_here p e le
  up_by p Halt e le h more = goes_up p Halt e (λ z. z) le h refl more
  up_by p (Send m) e le h more = goes_up p (Send m) e (λ z. z) le h refl more
  up_by p (Alt m) e le h more = goes_up p (Alt m) e (λ z. z) le h refl more
  up_by p (SetGap t) e le h more = goes_up p (SetGap t) e (λ z. z) le h refl more
  up_by p (Loop n) e le h more = goes_up p (Loop n) e (λ z. z) le h refl more
  up_by p (Again i) e le h more = goes_up p (Again i) e (λ z. z) le h refl more
  up_by p (Leave i) e le h more = goes_up p (Leave i) e (λ z. z) le h refl more
  up_by p (Jump i) e le h more = goes_up p (Jump i) e (λ z. z) le h refl more
  up_by p (Test k) e le h more = goes_up p (Test k) e (λ z. z) le h refl more
  up_by p (JumpFalse i) e le h more = goes_up p (JumpFalse i) e (λ z. z) le h refl more
  up_by p Begin e le h more = goes_up p Begin e (λ z. z) le h refl more
  up_by p (Pace t) e le h more = goes_up p (Pace t) e (λ z. z) le h refl more
  up_by p (Call r) e le h more = goes_up p (Call r) e (λ z. z) le h refl more

  sums_up : (d p : ℕ) → p + d ≡ length os → Each os (λ p. CallsEarlier (owner_at os p)) → Sums_up p
  sums_up zero p e calls =
      let all : p ≡ length os = omega (arith, e) in
      let none : drop p os ≡ [] = drop_all p os (omega (arith, e)) in
      let seam = get_or-append_seam (sums_at cost os (length os)).ended (sums_at cost os (length os)).now [] 0 in
      omega (
        arith,
        seam,
        ap (λ j. get_or (all_sums cost os) j 0) (sums_long (length os)),
        ap (λ q. get_or (all_sums cost os) (owner_at os q) 0) all,
        ap (λ q. (sums_at cost os q).now) all,
        ap (summed (price cost os) (weights_of (price cost os) os (open_at os p))) none,
      )
  sums_up (suc d) p e calls =
      let x = there os p (omega (arith, e)) in
      up_by p x.0 x.1 (omega (arith, e)) (calls p x.0 x.1) (sums_up d (suc p) (omega (arith, e)) calls)

in_range_behind : (os : List Op) (p : ℕ) → AreInRange os → AreInRange (drop p os)
in_range_behind os zero h = h
in_range_behind [] (suc p) h = tt
in_range_behind (o ∷ os) (suc p) h = in_range_behind os p h.1

-- a routine costs no more from its beginning than its sum says
pub rest_total : (cost : Op → ℕ) (code : Code) → IsLoadable code → (b : ℕ) → b ≤ length code.operations → open_at code.operations b ≡ []
    → rest (price cost code.operations) [] (drop b code.operations) ≤ get_or (all_sums cost code.operations) (owner_at code.operations b) 0
rest_total cost code ok b le none =
    let os = code.operations in
    omega (
      arith,
      rest_summed (price cost os) (drop b os) [] (1 ∷ []) (in_range_behind os b ok.image.operands) refl,
      sums_up cost os (length os - b) b (omega (arith, le)) ok.routines_ok.earlier,
      ap (λ st. summed (price cost os) (weights_of (price cost os) os st) (drop b os)) none,
    )
