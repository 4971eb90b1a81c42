-- A loadable code pays no more than its sum, and halts within its budget.
use Rattle.std.proofs.Common.{◌≡◌, ℕ, zero, suc, ◌+◌, ◌-◌, ◌≤◌, List, [], ◌∷◌, length, get_or, drop, Option, Some, None, refl, sym, ap, ◌∙◌, subst, arith}
use Rattle.std.specs.Prelude.{slice_get}
use Rattle.std.proofs.Math.Seq.{get_or-append_seam}
use Rattle.mil_word.specs.declared.Line.{Line}
use Rattle.mil_message.specs.declared.messages.Message.{Message}
use Rattle.mil_message.specs.World.{World, Point, other_line}
use Rattle.frame_code.specs.declared.Op.{Op}
use Rattle.frame_code.specs.declared.Op.TheVariants.{Halt, Send, Alt, SetGap, Loop, Again, Leave, Jump, Test, JumpFalse, Call, Return, Begin, Pace}
use Rattle.frame_code.specs.Table.{Code, Registers, Running, Turn, goes_on, halted, stuck, sends, turns, leaves, counted, calls, comes_back, keeps_pace, act, step, then_run, run, start}
use Rattle.frame_code.specs.Routines.{routines, main_of, routine_at}
use Rattle.frame_code.specs.Loadable.{IsLoadable}
use Rattle.frame_load.specs.Budget.{one_each, one_sent, cost_of, sums_at, total, budget, worst_messages}
use Rattle.frame_load.proofs.Left.{rest}
use Rattle.frame_load.proofs.Weights.{all_sums, price, sums_long, rest_total}
use Rattle.frame_load.specs.Runs.{Reaches, HaltsWithin, pays, paid}
use Rattle.frame_load.proofs.Opened.{there, routines_are, begun_inside, main_begun}
use Rattle.frame_load.proofs.Never.{Fits, FitsAfter, step_fits, start_fits}
use Rattle.frame_load.proofs.Costs.{note, left_of, Costs, step_costs}

-- what is left at the start is what the main part costs
start_left : (cost : Op → ℕ) {State Outcome : Type 0} (w : World State Outcome) (code : Code) (ok : IsLoadable code) → left_of cost w code ok (start code) ≤ total cost code.operations
start_left cost w code ok =
    let os = code.operations in
    let g = main_begun os (λ p e. ok.nested.paired p Return e) in
    let b = main_of os in
    let whole = rest_total cost code ok b (let h = begun_inside os (routines os) b ok.ends g in omega (arith, h)) g.none_open in
    let first : left_of cost w code ok (start code) ≡ rest (price cost os) [] (drop b os) = ap (λ st. rest (price cost os) (note cost w code ok [] st) (drop b os)) g.none_open in
    let last = get_or-append_seam (sums_at cost os (length os)).ended (sums_at cost os (length os)).now [] 0 in
    omega (arith, whole, first, last, ap (λ j. get_or (all_sums cost os) j 0) (g.routine ∙ routines_are os ∙ sym (sums_long cost os (length os))))

-- what is paid so far is at most what was left
module _ (cost : Op → ℕ) {State Outcome : Type 0} (w : World State Outcome) (code : Code) (ok : IsLoadable code) where
  then_paid : (n : ℕ) (r : Registers) (t : Turn (Running State Outcome)) → Costs cost w code ok r t → FitsAfter code t → ((x : Running State Outcome) → Fits code x.at → paid w cost n code x.at x.point ≤ left_of cost w code ok x.at)
      → pays w t (cost_of cost (slice_get code.operations r.place)) (paid w cost n code) ≤ left_of cost w code ok r
  then_paid n r (goes_on x) c f next = omega (arith, c, next x f)
  then_paid n r halted c f next = omega arith
  then_paid n r stuck c f next = omega arith

  paid_left : (n : ℕ) (r : Registers) (p : Point State Outcome) → Fits code r → paid w cost n code r p ≤ left_of cost w code ok r
  paid_left zero r p f = omega arith
  paid_left (suc n) r p f = then_paid n r (step w code r p) (step_costs cost w code ok r p f) (step_fits w code ok r p f) (λ x g. paid_left n x.at x.point g)

  pub within_total : (from : Point State Outcome) (n : ℕ) → paid w cost n code (start code) from ≤ total cost code.operations
  within_total from n = omega (arith, paid_left n (start code) from (start_fits w code ok), start_left cost w code ok)

module _ {State Outcome : Type 0} (w : World State Outcome) (code : Code) (ok : IsLoadable code) where
  -- a step is left, that of the Halt
  some_left : (r : Registers) (p : Point State Outcome) → Fits code r → 1 ≤ left_of one_each w code ok r
  some_left r p f = by (step w code r p) (step_costs one_each w code ok r p f) (step_fits w code ok r p f)
    where
      one : cost_of one_each (slice_get code.operations r.place) ≡ 1
      one = ap (cost_of one_each) (there code.operations r.place f.inside).1

      by : (t : Turn (Running State Outcome)) → Costs one_each w code ok r t → FitsAfter code t → 1 ≤ left_of one_each w code ok r
      by (goes_on x) c g = omega (arith, c, one)
      by halted c g = omega (arith, c, one)
      by stuck c g = absurd g

  halts_by : (n : ℕ) (r : Registers) (p : Point State Outcome) → left_of one_each w code ok r ≤ suc n → ((o : Op) × (slice_get code.operations r.place ≡ Some o)) → (t : Turn (Running State Outcome)) → step w code r p ≡ t → FitsAfter code t → Costs one_each w code ok r t
      → ((m : ℕ) → suc m ≡ n → (x : Running State Outcome) → Fits code x.at → left_of one_each w code ok x.at ≤ suc m → HaltsWithin w code m x.at x.point) → HaltsWithin w code n r p
  halts_by zero r p le at (goes_on x) e f c next = absurd (omega (arith, le, c, ap (cost_of one_each) at.1, some_left x.at x.point f))
  halts_by zero r p le at halted e f c next = record { last = record { at = r; point = p }; comes = refl; halts = e }
  halts_by zero r p le at stuck e f c next = absurd f
  halts_by (suc n) r p le at (goes_on x) e f c next =
      let h = next n refl x f (omega (arith, le, c, ap (cost_of one_each) at.1)) in
      record { last = h.last; comes = ap (λ t. then_run w t (record { at = r; point = p }) (run w n code)) e ∙ h.comes; halts = h.halts }
  halts_by (suc n) r p le at halted e f c next = record { last = record { at = r; point = p }; comes = ap (λ t. then_run w t (record { at = r; point = p }) (run w n code)) e; halts = e }
  halts_by (suc n) r p le at stuck e f c next = absurd f

  halts_within : (n : ℕ) (r : Registers) (p : Point State Outcome) → Fits code r → left_of one_each w code ok r ≤ suc n → HaltsWithin w code n r p
  halts_within zero r p f le = halts_by zero r p le (there code.operations r.place f.inside) (step w code r p) refl (step_fits w code ok r p f) (step_costs one_each w code ok r p f) (λ m e x g l. absurd (omega (arith, e)))
  halts_within (suc n) r p f le = halts_by (suc n) r p le (there code.operations r.place f.inside) (step w code r p) refl (step_fits w code ok r p f) (step_costs one_each w code ok r p f) (λ m e x g l. let same : m ≡ n = omega (arith, e) in subst (λ k. HaltsWithin w code k x.at x.point) (sym same) (halts_within n x.at x.point g (omega (arith, l, same))))

  pub halts_in_budget : (p : Point State Outcome) → HaltsWithin w code (budget code.operations - 1) (start code) p
  halts_in_budget p = halts_within (budget code.operations - 1) (start code) p (start_fits w code ok) (omega (arith, start_left one_each w code ok))

  -- what a step sends
  abbrev Counts : Registers → Point State Outcome → Turn (Running State Outcome) → Type 0
  Counts r p (goes_on x) = x.point.number ≡ p.number + cost_of one_sent (slice_get code.operations r.place)
  Counts r p halted = Unit {0}
  Counts r p stuck = Unit {0}

  none_sent : (r : Registers) (p : Point State Outcome) (o : Op) → slice_get code.operations r.place ≡ Some o → one_sent o ≡ 0 → p.number ≡ p.number + cost_of one_sent (slice_get code.operations r.place)
  none_sent r p o at e = omega (arith, ap (cost_of one_sent) at, e)

  sends_count : (r : Registers) (p : Point State Outcome) (o : Op) (on : Line → Line) → slice_get code.operations r.place ≡ Some o → one_sent o ≡ 1 → (v : Option (Line × Message)) → Counts r p (sends w v on r p)
  sends_count r p o on at e None = tt
  sends_count r p o on at e (Some x) = omega (arith, ap (cost_of one_sent) at, e)

  counted_count : (r : Registers) (p : Point State Outcome) (i k : ℕ) (ns : List ℕ) → slice_get code.operations r.place ≡ Some (Again i) → Counts r p (counted w k ns i r p)
  counted_count r p i zero ns at = none_sent r p (Again i) at refl
  counted_count r p i (suc k) ns at = none_sent r p (Again i) at refl

  turns_count : (r : Registers) (p : Point State Outcome) (i : ℕ) (cs : List ℕ) → slice_get code.operations r.place ≡ Some (Again i) → Counts r p (turns w cs i r p)
  turns_count r p i [] at = tt
  turns_count r p i (c ∷ cs) at = counted_count r p i (c - 1) cs at

  leaves_count : (r : Registers) (p : Point State Outcome) (i : ℕ) (cs : List ℕ) → slice_get code.operations r.place ≡ Some (Leave i) → Counts r p (leaves w cs i r p)
  leaves_count r p i [] at = tt
  leaves_count r p i (c ∷ cs) at = none_sent r p (Leave i) at refl

  calls_count : (r : Registers) (p : Point State Outcome) (k : ℕ) (v : Option ℕ) → slice_get code.operations r.place ≡ Some (Call k) → Counts r p (calls w v r p)
  calls_count r p k None at = tt
  calls_count r p k (Some b) at = none_sent r p (Call k) at refl

  backs_count : (r : Registers) (p : Point State Outcome) (qs : List ℕ) → slice_get code.operations r.place ≡ Some Return → Counts r p (comes_back w qs r p)
  backs_count r p [] at = tt
  backs_count r p (q ∷ qs) at = none_sent r p Return at refl

  paces_count : (r : Registers) (p : Point State Outcome) (h : ℕ) (bs : List ℕ) → slice_get code.operations r.place ≡ Some (Pace h) → Counts r p (keeps_pace w bs h r p)
  paces_count r p h [] at = tt
  paces_count r p h (b ∷ bs) at = none_sent r p (Pace h) at refl

  step_counts : (r : Registers) (p : Point State Outcome) → Fits code r → Counts r p (step w code r p)
  step_counts r p f = let x = there code.operations r.place f.inside in subst (λ v. Counts r p (act w v code r p)) (sym x.1) (by_op x.0 x.1)
    where
      by_op : (o : Op) → slice_get code.operations r.place ≡ Some o → Counts r p (act w (Some o) code r p)
      by_op Halt at = tt
      by_op (Send m) at = sends_count r p (Send m) (λ l. l) at refl (slice_get code.messages m)
      by_op (Alt m) at = sends_count r p (Alt m) (λ l. other_line r.line) at refl (slice_get code.messages m)
      by_op (SetGap t) at = none_sent r p (SetGap t) at refl
      by_op (Loop n) at = none_sent r p (Loop n) at refl
      by_op (Again i) at = turns_count r p i r.counters at
      by_op (Leave i) at = leaves_count r p i r.counters at
      by_op (Jump i) at = none_sent r p (Jump i) at refl
      by_op (Test k) at = none_sent r p (Test k) at refl
      by_op (JumpFalse i) at = none_sent r p (JumpFalse i) at refl
      by_op (Call k) at = calls_count r p k (routine_at code.operations k) at
      by_op Return at = backs_count r p r.returns at
      by_op Begin at = none_sent r p Begin at refl
      by_op (Pace h) at = paces_count r p h r.frames at

  -- the messages so far and those that are left
  abbrev Bounded : ℕ → Turn (Running State Outcome) → Type 0
  Bounded n (goes_on x) = x.point.number + left_of one_sent w code ok x.at ≤ n
  Bounded n halted = Unit {0}
  Bounded n stuck = Unit {0}

  then_bounded : (n m : ℕ) (r : Registers) (p : Point State Outcome) → p.number + left_of one_sent w code ok r ≤ m → (t : Turn (Running State Outcome)) → FitsAfter code t → Costs one_sent w code ok r t → Counts r p t
      → ((x : Running State Outcome) → Fits code x.at → x.point.number + left_of one_sent w code ok x.at ≤ m → Bounded m (run w n code x.at x.point)) → Bounded m (then_run w t (record { at = r; point = p }) (run w n code))
  then_bounded n m r p le (goes_on x) f c k next = next x f (omega (arith, le, c, k))
  then_bounded n m r p le halted f c k next = le
  then_bounded n m r p le stuck f c k next = tt

  run_bounded : (n m : ℕ) (r : Registers) (p : Point State Outcome) → Fits code r → p.number + left_of one_sent w code ok r ≤ m → Bounded m (run w n code r p)
  run_bounded zero m r p f le = le
  run_bounded (suc n) m r p f le = then_bounded n m r p le (step w code r p) (step_fits w code ok r p f) (step_costs one_sent w code ok r p f) (step_counts r p f) (λ x g l. run_bounded n m x.at x.point g l)

  pub few_messages : (from : Point State Outcome) (x : Running State Outcome) → Reaches w code from x → x.point.number ≤ from.number + worst_messages code.operations
  few_messages from x r =
      let most = from.number + worst_messages code.operations in
      let b : Bounded most (goes_on x) = subst (Bounded most) r.1 (run_bounded r.0 most (start code) from (start_fits w code ok) (omega (arith, start_left one_sent w code ok))) in
      omega (arith, b)
