-- Runs of a code, one step more and what it costs, and where they end.
use Rattle.std.proofs.Common.{◌≡◌, ◌≤◌, ◌<◌, ◌+◌, ℕ, zero, suc, sym, ap, ◌∙◌, refl, ⊎_elim, arith}
use Rattle.std.proofs.lemmas.Bool.{cases_lt}
use Rattle.std.specs.Prelude.{slice_get}
use Rattle.mil_message.specs.World.{World, Point}
use Rattle.frame_code.specs.declared.Op.{Op}
use Rattle.frame_code.specs.Table.{Code, Registers, Running, Turn, goes_on, halted, stuck, step, then_run, run, start}
use Rattle.frame_load.specs.Budget.{cost_of}
use Rattle.frame_load.specs.Runs.{HaltsWithin, pays, paid}

module _ {State Outcome : Type 0} (w : World State Outcome) (code : Code) where
  -- one step more
  then_more : (n : ℕ) (r : Registers) (p : Point State Outcome) (x y : Running State Outcome) (t : Turn (Running State Outcome)) → step w code r p ≡ t
      → ((z : Running State Outcome) → run w n code z.at z.point ≡ goes_on x → run w (suc n) code z.at z.point ≡ goes_on y)
      → step w code x.at x.point ≡ goes_on y → then_run w t (record { at = r; point = p }) (run w n code) ≡ goes_on x → then_run w t (record { at = r; point = p }) (run w (suc n) code) ≡ goes_on y
  then_more n r p x y (goes_on z) s more e h = more z h
  then_more n r p x y halted s more e h =
      let here : record { at = r; point = p } ≡ x = cc in
      let no : halted ≡ goes_on y = sym s ∙ ap (λ v. step w code v.at v.point) here ∙ e in
      absurd (cc)
  then_more n r p x y stuck s more e h = absurd (cc)

  pub run_more : (n : ℕ) (r : Registers) (p : Point State Outcome) (x y : Running State Outcome) → step w code x.at x.point ≡ goes_on y → run w n code r p ≡ goes_on x → run w (suc n) code r p ≡ goes_on y
  run_more zero r p x y e h =
      let here : record { at = r; point = p } ≡ x = cc in
      let s : step w code r p ≡ goes_on y = ap (λ v. step w code v.at v.point) here ∙ e in
      ap (λ t. then_run w t (record { at = r; point = p }) (run w zero code)) s
  run_more (suc n) r p x y e h = then_more n r p x y (step w code r p) refl (λ z g. run_more n z.at z.point x y e g) e h

  -- a step more costs what its operation does
  pub paid_more : (cost : Op → ℕ) (n : ℕ) (r : Registers) (p : Point State Outcome) (x y : Running State Outcome) → step w code x.at x.point ≡ goes_on y → run w n code r p ≡ goes_on x
      → paid w cost (suc n) code r p ≡ paid w cost n code r p + cost_of cost (slice_get code.operations x.at.place)
  paid_more cost zero r p x y e h =
      let here : record { at = r; point = p } ≡ x = cc in
      let s : step w code r p ≡ goes_on y = ap (λ v. step w code v.at v.point) here ∙ e in
      let one : paid w cost 1 code r p ≡ cost_of cost (slice_get code.operations r.place) + 0 = ap (λ t. pays w t (cost_of cost (slice_get code.operations r.place)) (paid w cost 0 code)) s in
      let place : cost_of cost (slice_get code.operations r.place) ≡ cost_of cost (slice_get code.operations x.at.place) = ap (λ (v : Running State Outcome). cost_of cost (slice_get code.operations v.at.place)) here in
      omega (arith, one, place)
  paid_more cost (suc n) r p x y e h = by_turn (step w code r p) refl h (λ z g. paid_more cost n z.at z.point x y e g)
    where
      by_turn : (t : Turn (Running State Outcome)) → step w code r p ≡ t → then_run w t (record { at = r; point = p }) (run w n code) ≡ goes_on x
          → ((z : Running State Outcome) → run w n code z.at z.point ≡ goes_on x → paid w cost (suc n) code z.at z.point ≡ paid w cost n code z.at z.point + cost_of cost (slice_get code.operations x.at.place))
          → pays w t (cost_of cost (slice_get code.operations r.place)) (paid w cost (suc n) code) ≡ pays w t (cost_of cost (slice_get code.operations r.place)) (paid w cost n code) + cost_of cost (slice_get code.operations x.at.place)
      by_turn (goes_on z) s g more = let rest = more z g in omega (arith, rest)
      by_turn halted s g more =
          let here : record { at = r; point = p } ≡ x = cc in
          let no : halted ≡ goes_on y = sym s ∙ ap (λ v. step w code v.at v.point) here ∙ e in
          absurd cc
      by_turn stuck s g more = absurd cc

  -- a run that has halted stands still
  pub run_halted : (n : ℕ) (r : Registers) (p : Point State Outcome) → step w code r p ≡ halted → run w n code r p ≡ goes_on (record { at = r; point = p })
  run_halted zero r p e = refl
  run_halted (suc n) r p e = ap (λ t. then_run w t (record { at = r; point = p }) (run w n code)) e

  pub run_stays : (b n : ℕ) (r : Registers) (p : Point State Outcome) (x : Running State Outcome) → step w code x.at x.point ≡ halted → run w b code r p ≡ goes_on x → b ≤ n → run w n code r p ≡ goes_on x
  run_stays zero n r p x e h le =
      let here : record { at = r; point = p } ≡ x = cc in
      let s : step w code r p ≡ halted = ap (λ v. step w code v.at v.point) here ∙ e in
      run_halted n r p s ∙ ap goes_on here
  run_stays (suc b) zero r p x e h le = absurd (omega (arith, le))
  run_stays (suc b) (suc n) r p x e h le = then_stays (step w code r p) (λ z g. run_stays b n z.at z.point x e g (omega (arith, le))) h
    where
      then_stays : (t : Turn (Running State Outcome)) → ((z : Running State Outcome) → run w b code z.at z.point ≡ goes_on x → run w n code z.at z.point ≡ goes_on x) → then_run w t (record { at = r; point = p }) (run w b code) ≡ goes_on x → then_run w t (record { at = r; point = p }) (run w n code) ≡ goes_on x
      then_stays (goes_on z) more g = more z g
      then_stays halted more g = g
      then_stays stuck more g = absurd (cc)

  -- a run that goes on has not taken all steps of a bound within which it halts
  pub before_end : (b n : ℕ) (from : Point State Outcome) (x y : Running State Outcome) → HaltsWithin w code b (start code) from → run w n code (start code) from ≡ goes_on x → step w code x.at x.point ≡ goes_on y → n < b
  before_end b n from x y ends h e = ⊎_elim (λ less. less) (λ le. absurd (late le)) (cases_lt n b)
    where
      late : b ≤ n → ⊥
      late le =
          let s : run w n code (start code) from ≡ goes_on ends.last = run_stays b n (start code) from ends.last ends.halts ends.comes le in
          let here : goes_on ends.last ≡ goes_on x = sym s ∙ h in
          let same : ends.last ≡ x = cc in
          let no : halted ≡ goes_on y = sym ends.halts ∙ ap (λ v. step w code v.at v.point) same ∙ e in
          cc
