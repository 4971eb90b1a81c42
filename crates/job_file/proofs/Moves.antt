-- What every step of a run keeps, in any world.
use Rattle.std.proofs.Common.{◌≡◌, ℕ, zero, suc, ◌+◌, ◌-◌, ◌*◌, List, [], ◌∷◌, refl, sym, ap, ◌∙◌, subst}
use Rattle.std.specs.Prelude.{Option, Some, None, slice_get}
use Rattle.mil_word.specs.declared.Line.{Line}
use Rattle.mil_message.specs.declared.messages.Message.{Message}
use Rattle.mil_message.specs.World.{World, Point, other_line, sent, paced_to}
use Rattle.frame_code.specs.declared.Op.{Op}
use Rattle.frame_code.specs.declared.Op.TheVariants as op
use Rattle.frame_code.specs.Table.{Code, Registers, Running, Turn, goes_on, halted, stuck, sends, counted, turns, leaves, act, step, then_run, run, calls, comes_back, keeps_pace}
use Rattle.frame_code.specs.Routines.{routine_at}
use Rattle.bc_machine.proofs.Runs.{run_halted}

module _ {State Outcome : Type 0} (w : World State Outcome) (code : Code) (R : Point State Outcome → Point State Outcome → Type 0)
    (same : (p : Point State Outcome) → R p p) (gap : (p : Point State Outcome) (t : ℕ) → R p (record p { gap = t }))
    (message : (line : Line) (m : Message) (p : Point State Outcome) → R p (sent w line m p))
    (paced : (t : ℕ) (p : Point State Outcome) → R p (paced_to w t p))
    (through : (p q s : Point State Outcome) → R p q → R q s → R p s) where
  comes : (p : Point State Outcome) (y x : Running State Outcome) → goes_on y ≡ goes_on x → R p y.point → R p x.point
  comes p y x e h = let is : y ≡ x = cc in subst (λ (v : Running State Outcome). R p v.point) is h

  sends_keep : (o : Option (Line × Message)) (on : Line → Line) (r : Registers) (p : Point State Outcome) (x : Running State Outcome) → sends w o on r p ≡ goes_on x → R p x.point
  sends_keep None on r p x e = absurd (cc)
  sends_keep (Some m) on r p x e = comes p _ x e (message (on m.0) m.1 p)

  counted_keep : (n : ℕ) (ns : List ℕ) (i : ℕ) (r : Registers) (p : Point State Outcome) (x : Running State Outcome) → counted w n ns i r p ≡ goes_on x → R p x.point
  counted_keep zero ns i r p x e = comes p _ x e (same p)
  counted_keep (suc n) ns i r p x e = comes p _ x e (same p)

  turns_keep : (ns : List ℕ) (i : ℕ) (r : Registers) (p : Point State Outcome) (x : Running State Outcome) → turns w ns i r p ≡ goes_on x → R p x.point
  turns_keep [] i r p x e = absurd (cc)
  turns_keep (n ∷ ns) i r p x e = counted_keep (n - 1) ns i r p x e

  leaves_keep : (ns : List ℕ) (i : ℕ) (r : Registers) (p : Point State Outcome) (x : Running State Outcome) → leaves w ns i r p ≡ goes_on x → R p x.point
  leaves_keep [] i r p x e = absurd (cc)
  leaves_keep (n ∷ ns) i r p x e = comes p _ x e (same p)

  calls_keep : (o : Option ℕ) (r : Registers) (p : Point State Outcome) (x : Running State Outcome) → calls w o r p ≡ goes_on x → R p x.point
  calls_keep None r p x e = absurd (cc)
  calls_keep (Some i) r p x e = comes p _ x e (same p)

  backs_keep : (is : List ℕ) (r : Registers) (p : Point State Outcome) (x : Running State Outcome) → comes_back w is r p ≡ goes_on x → R p x.point
  backs_keep [] r p x e = absurd (cc)
  backs_keep (i ∷ is) r p x e = comes p _ x e (same p)

  pace_keeps : (bs : List ℕ) (h : ℕ) (r : Registers) (p : Point State Outcome) (x : Running State Outcome) → keeps_pace w bs h r p ≡ goes_on x → R p x.point
  pace_keeps [] h r p x e = absurd (cc)
  pace_keeps (b ∷ bs) h r p x e = comes p _ x e (paced (b + 1000 * h) p)

  pub act_keeps : (o : Option Op) (code : Code) (r : Registers) (p : Point State Outcome) (x : Running State Outcome) → act w o code r p ≡ goes_on x → R p x.point
  act_keeps None code r p x e = absurd (cc)
  act_keeps (Some op.Halt) code r p x e = absurd (cc)
  act_keeps (Some (op.Send m)) code r p x e = sends_keep (slice_get code.messages m) (λ l. l) r p x e
  act_keeps (Some (op.Alt m)) code r p x e = sends_keep (slice_get code.messages m) (λ l. other_line r.line) r p x e
  act_keeps (Some (op.SetGap t)) code r p x e = comes p _ x e (gap p t)
  act_keeps (Some (op.Loop n)) code r p x e = comes p _ x e (same p)
  act_keeps (Some (op.Again i)) code r p x e = turns_keep r.counters i r p x e
  act_keeps (Some (op.Leave i)) code r p x e = leaves_keep r.counters i r p x e
  act_keeps (Some (op.Jump i)) code r p x e = comes p _ x e (same p)
  act_keeps (Some (op.Test k)) code r p x e = comes p _ x e (same p)
  act_keeps (Some (op.JumpFalse i)) code r p x e = comes p _ x e (same p)
  act_keeps (Some (op.Call n)) code r p x e = calls_keep (routine_at code.operations n) r p x e
  act_keeps (Some op.Return) code r p x e = backs_keep r.returns r p x e
  act_keeps (Some op.Begin) code r p x e = comes p _ x e (same p)
  act_keeps (Some (op.Pace h)) code r p x e = pace_keeps r.frames h r p x e

  pub step_keeps : (r : Registers) (p : Point State Outcome) (x : Running State Outcome) → step w code r p ≡ goes_on x → R p x.point
  step_keeps r p x e = act_keeps (slice_get code.operations r.place) code r p x e

  pub run_keeps : (n : ℕ) (r : Registers) (p : Point State Outcome) (x : Running State Outcome) → run w n code r p ≡ goes_on x → R p x.point
  run_keeps zero r p x e = comes p _ x e (same p)
  run_keeps (suc n) r p x e = go (step w code r p) refl (λ z h. run_keeps n z.at z.point x h) e
    where
      go : (t : Turn (Running State Outcome)) → step w code r p ≡ t → ((z : Running State Outcome) → run w n code z.at z.point ≡ goes_on x → R z.point x.point)
          → then_run w t (record { at = r; point = p }) (run w n code) ≡ goes_on x → R p x.point
      go (goes_on z) s more h = through p z.point x.point (step_keeps r p z s) (more z h)
      go halted s more h = comes p _ x h (same p)
      go stuck s more h = absurd (cc)

-- from where a run is to where it halts
module _ {State Outcome : Type 0} (w : World State Outcome) (code : Code) where
  pub comes_to : (n m : ℕ) (r : Registers) (p : Point State Outcome) (x y : Running State Outcome) → run w n code r p ≡ goes_on x → run w m code r p ≡ goes_on y
      → step w code y.at y.point ≡ halted → (left : ℕ) × (run w left code x.at x.point ≡ goes_on y)
  comes_to zero m r p x y e h ends =
      let is : record { at = r; point = p } ≡ x = cc in
      (m, subst (λ (v : Running State Outcome). run w m code v.at v.point ≡ goes_on y) is h)
  comes_to (suc n) zero r p x y e h ends =
      let is : record { at = r; point = p } ≡ y = cc in
      let here : step w code r p ≡ halted = ap (λ (v : Running State Outcome). step w code v.at v.point) is ∙ ends in
      (0, sym e ∙ run_halted w code (suc n) r p here ∙ ap goes_on is)
  comes_to (suc n) (suc m) r p x y e h ends = go (step w code r p) (λ z f g. comes_to n m z.at z.point x y f g ends) e h
    where
      go : (t : Turn (Running State Outcome))
          → ((z : Running State Outcome) → run w n code z.at z.point ≡ goes_on x → run w m code z.at z.point ≡ goes_on y → (left : ℕ) × (run w left code x.at x.point ≡ goes_on y))
          → then_run w t (record { at = r; point = p }) (run w n code) ≡ goes_on x → then_run w t (record { at = r; point = p }) (run w m code) ≡ goes_on y
          → (left : ℕ) × (run w left code x.at x.point ≡ goes_on y)
      go (goes_on z) more f g = more z f g
      go halted more f g = (0, sym f ∙ g)
      go stuck more f g = absurd (cc)
