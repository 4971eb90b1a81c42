-- Runs of a controller where only the first messages leave a trace.
use Rattle.std.proofs.Common.{◌≡◌, ◌≤◌, ℕ, zero, suc, ◌+◌, ◌-◌, false, cond, List, [], ◌∷◌, ◌++◌, length, refl, sym, ap, ◌∙◌, subst, arith}
use Rattle.std.specs.Prelude.{Option, Some, None, slice_get}
use Rattle.std.proofs.lemmas.Bool.{le-leb, lt-leb}
use Rattle.mil_word.specs.declared.Line.{Line}
use Rattle.mil_message.specs.declared.messages.Message.{Message}
use Rattle.mil_message.specs.World.{Point, other_line, sent}
use Rattle.mil_line.specs.Plans.{Planned}
use Rattle.mil_bus.specs.declared.outcomes.Outcome.{Outcome}
use Rattle.mil_bus.specs.Exchange.{played, paced}
use Rattle.frame_code.specs.declared.Op.{Op}
use Rattle.frame_code.specs.declared.Op.TheVariants as op
use Rattle.frame_code.specs.Table.{Code, Registers, Running, Turn, goes_on, halted, stuck, sends, keeps_pace, act, step, then_run, run}
use Rattle.controller_host.specs.Values.{InsertionValue}
use Rattle.bc_machine.specs.declared.placed.Placed.{Placed}
use Rattle.bc_machine.specs.MadeMessages.{MadeMessage, own, inserted}
use Rattle.bc_machine.specs.Hosting.{next_insertion, inserted_in}
use Rattle.bc_machine.specs.Controller.{Setting, BusRun, setting_of, world_in, own_talk, with_own, with_insertion, inserted_next, inserting, inserting_many, drained, outcome_in}
use Rattle.bc_machine.specs.Running.{stops_at}
use Rattle.bc_machine.proofs.Queued.{more_made}
use Rattle.bc_machine.proofs.Inserting.{long_many}
use Rattle.bc_machine.proofs.Numbers.{run_rises}
use Rattle.job_file.specs.Meaning.{up_to}
use Rattle.job_file.proofs.Drains.{to_end}

module _ (plan : List Planned) (placed : List Placed) (most k : ℕ) where
  abbrev all : Setting
  all = setting_of plan placed most

  abbrev limited : Setting
  limited = record { plan = plan; placed = placed; most = most; counts = up_to k }

  -- ---- up to k messages all goes as where all count

  inserting_agrees : (gap : ℕ) (r : BusRun) → length (inserting all gap r).made ≤ k → inserting limited gap r ≡ inserting all gap r
  inserting_agrees gap r = by_next (next_insertion placed most r.made)
    where
      by_next : (o : Option InsertionValue) → length (inserted_next all gap o r).made ≤ k → inserted_next limited gap o r ≡ inserted_next all gap o r
      by_next None le = refl
      by_next (Some x) le =
          let low : length r.made + 1 ≤ k = omega (arith, le, more_made r.made inserted) in
          ap (λ b. cond b (with_insertion all gap x r) r) (le-leb (length r.made + 1) k low)

  pub many_agree : (n gap : ℕ) (r : BusRun) → length (inserting_many all n gap r).made ≤ k → inserting_many limited n gap r ≡ inserting_many all n gap r
  many_agree zero gap r le = refl
  many_agree (suc n) gap r le =
      let rest = long_many plan placed most n gap (inserting all gap r) in
      let low : length (inserting all gap r).made ≤ k = omega (arith, rest, le) in
      ap (inserting_many limited n gap) (inserting_agrees gap r low) ∙ many_agree n gap (inserting all gap r) le

  drained_agrees : (gap : ℕ) (r : BusRun) → length (drained all gap r).made ≤ k → drained limited gap r ≡ drained all gap r
  unfolding drained
  drained_agrees gap r le = many_agree (most - inserted_in r.made) gap r le

  abbrev sent_behind : Line → Message → Point BusRun Outcome → BusRun → BusRun → Point BusRun Outcome
  sent_behind line m p before after = record { state = after; number = p.number + 1; gap = p.gap; last = Some (outcome_in (own_talk all line m p.gap before)) }

  sent_agrees : (line : Line) (m : Message) (p : Point BusRun Outcome) → length (drained all p.gap p.state).made + 1 ≤ k → sent (world_in limited) line m p ≡ sent (world_in all) line m p
  sent_agrees line m p low =
      let before = drained all p.gap p.state in
      let same : drained limited p.gap p.state ≡ before = drained_agrees p.gap p.state (omega (arith, low)) in
      ap (λ (v : BusRun). sent_behind line m p v (with_own limited line m p.gap v)) same
      ∙ ap (λ b. sent_behind line m p before (cond b (with_own all line m p.gap before) before)) (le-leb (length before.made + 1) k low)

  sends_agree : (o : Option (Line × Message)) (on : Line → Line) (r : Registers) (p : Point BusRun Outcome) (x : Running BusRun Outcome)
      → sends (world_in all) o on r p ≡ goes_on x → length x.point.state.made ≤ k → sends (world_in limited) o on r p ≡ goes_on x
  sends_agree None on r p x e le = absurd cc
  sends_agree (Some m) on r p x e le =
      let is : record { at = record r { place = r.place + 1; line = on m.0 }; point = sent (world_in all) (on m.0) m.1 p } ≡ x = cc in
      let before = drained all p.gap p.state in
      let long : length (before.made ++ own m.1 ∷ []) ≡ length x.point.state.made = ap (λ (v : Running BusRun Outcome). length v.point.state.made) is in
      let low : length before.made + 1 ≤ k = omega (arith, long, le, more_made before.made (own m.1)) in
      ap (λ (q : Point BusRun Outcome). goes_on (record { at = record r { place = r.place + 1; line = on m.0 }; point = q })) (sent_agrees (on m.0) m.1 p low) ∙ e

  pace_agrees : (bs : List ℕ) (h : ℕ) (r : Registers) (p : Point BusRun Outcome) (x : Running BusRun Outcome)
      → keeps_pace (world_in all) bs h r p ≡ goes_on x → keeps_pace (world_in limited) bs h r p ≡ goes_on x
  pace_agrees [] h r p x e = absurd cc
  pace_agrees (b ∷ bs) h r p x e = e

  act_agrees : (o : Option Op) (code : Code) (r : Registers) (p : Point BusRun Outcome) (x : Running BusRun Outcome)
      → act (world_in all) o code r p ≡ goes_on x → length x.point.state.made ≤ k → act (world_in limited) o code r p ≡ goes_on x
  act_agrees None code r p x e le = e
  act_agrees (Some op.Halt) code r p x e le = e
  act_agrees (Some (op.Send m)) code r p x e le = sends_agree (slice_get code.messages m) (λ l. l) r p x e le
  act_agrees (Some (op.Alt m)) code r p x e le = sends_agree (slice_get code.messages m) (λ l. other_line r.line) r p x e le
  act_agrees (Some (op.SetGap t)) code r p x e le = e
  act_agrees (Some (op.Loop n)) code r p x e le = e
  act_agrees (Some (op.Again i)) code r p x e le = e
  act_agrees (Some (op.Leave i)) code r p x e le = e
  act_agrees (Some (op.Jump i)) code r p x e le = e
  act_agrees (Some (op.Test t)) code r p x e le = e
  act_agrees (Some (op.JumpFalse i)) code r p x e le = e
  act_agrees (Some (op.Call n)) code r p x e le = e
  act_agrees (Some op.Return) code r p x e le = e
  act_agrees (Some op.Begin) code r p x e le = e
  act_agrees (Some (op.Pace h)) code r p x e le = pace_agrees r.frames h r p x e

  sends_on : (o : Option (Line × Message)) (on : Line → Line) (r : Registers) (p : Point BusRun Outcome) → sends (world_in all) o on r p ≡ halted → sends (world_in limited) o on r p ≡ halted
  sends_on None on r p e = absurd cc
  sends_on (Some m) on r p e = absurd cc

  pace_on : (bs : List ℕ) (h : ℕ) (r : Registers) (p : Point BusRun Outcome) → keeps_pace (world_in all) bs h r p ≡ halted → keeps_pace (world_in limited) bs h r p ≡ halted
  pace_on [] h r p e = absurd cc
  pace_on (b ∷ bs) h r p e = absurd cc

  act_halts : (o : Option Op) (code : Code) (r : Registers) (p : Point BusRun Outcome) → act (world_in all) o code r p ≡ halted → act (world_in limited) o code r p ≡ halted
  act_halts None code r p e = e
  act_halts (Some op.Halt) code r p e = e
  act_halts (Some (op.Send m)) code r p e = sends_on (slice_get code.messages m) (λ l. l) r p e
  act_halts (Some (op.Alt m)) code r p e = sends_on (slice_get code.messages m) (λ l. other_line r.line) r p e
  act_halts (Some (op.SetGap t)) code r p e = e
  act_halts (Some (op.Loop n)) code r p e = e
  act_halts (Some (op.Again i)) code r p e = e
  act_halts (Some (op.Leave i)) code r p e = e
  act_halts (Some (op.Jump i)) code r p e = e
  act_halts (Some (op.Test t)) code r p e = e
  act_halts (Some (op.JumpFalse i)) code r p e = e
  act_halts (Some (op.Call n)) code r p e = e
  act_halts (Some op.Return) code r p e = e
  act_halts (Some op.Begin) code r p e = e
  act_halts (Some (op.Pace h)) code r p e = pace_on r.frames h r p e

  -- a run of at most k messages is the same where no others count
  pub run_agrees : (code : Code) (n : ℕ) (r : Registers) (p : Point BusRun Outcome) (x : Running BusRun Outcome) → run (world_in all) n code r p ≡ goes_on x → length x.point.state.made ≤ k
      → run (world_in limited) n code r p ≡ goes_on x
  run_agrees code zero r p x e le = e
  run_agrees code (suc n) r p x e le = go (step (world_in all) code r p) refl (λ z h. run_agrees code n z.at z.point x h le) e
    where
      go : (t : Turn (Running BusRun Outcome)) → step (world_in all) code r p ≡ t
          → ((z : Running BusRun Outcome) → run (world_in all) n code z.at z.point ≡ goes_on x → run (world_in limited) n code z.at z.point ≡ goes_on x)
          → then_run (world_in all) t (record { at = r; point = p }) (run (world_in all) n code) ≡ goes_on x → run (world_in limited) (suc n) code r p ≡ goes_on x
      go (goes_on z) is more h =
          let low : length z.point.state.made ≤ k = omega (arith, run_rises plan placed most code n z.at z.point x h, le) in
          let also : step (world_in limited) code r p ≡ goes_on z = act_agrees (slice_get code.operations r.place) code r p z is low in
          ap (λ t. then_run (world_in limited) t (record { at = r; point = p }) (run (world_in limited) n code)) also ∙ more z h
      go halted is more h =
          let also : step (world_in limited) code r p ≡ halted = act_halts (slice_get code.operations r.place) code r p is in
          ap (λ t. then_run (world_in limited) t (record { at = r; point = p }) (run (world_in limited) n code)) also ∙ h
      go stuck is more h = absurd cc

  -- ---- behind k messages nothing is seen of those that follow

  abbrev pub Stands : BusRun → BusRun → Type 0
  Stands r q = k ≤ length r.made → (played q.bus ≡ played r.bus) × (q.made ≡ r.made)

  stands_same : (r : BusRun) → Stands r r
  stands_same r le = (refl, refl)

  stands_own : (line : Line) (m : Message) (gap : ℕ) (r : BusRun) → Stands r (with_own limited line m gap r)
  stands_own line m gap r le =
      let same : with_own limited line m gap r ≡ r = ap (λ b. cond b (with_own all line m gap r) r) (lt-leb (length r.made + 1) k (omega (arith, le))) in
      (ap (λ (v : BusRun). played v.bus) same, ap (λ (v : BusRun). v.made) same)

  stands_inserted : (gap : ℕ) (x : InsertionValue) (r : BusRun) → Stands r (with_insertion limited gap x r)
  stands_inserted gap x r le =
      let same : with_insertion limited gap x r ≡ r = ap (λ b. cond b (with_insertion all gap x r) r) (lt-leb (length r.made + 1) k (omega (arith, le))) in
      (ap (λ (v : BusRun). played v.bus) same, ap (λ (v : BusRun). v.made) same)

  stands_paced : (tick : ℕ) (r : BusRun) → Stands r (record { bus = paced tick r.bus; made = r.made })
  stands_paced tick r le = (refl, refl)

  stands_through : (a b c : BusRun) → Stands a b → Stands b c → Stands a c
  stands_through a b c f g le =
      let first = f le in
      let second = g (subst (λ (made : List MadeMessage). k ≤ length made) (sym first.1) le) in
      (second.0 ∙ first.0, second.1 ∙ first.1)

  pub stands_to_end : (code : Code) (n : ℕ) (x y : Running BusRun Outcome) (count : ℕ) → run (world_in limited) n code x.at x.point ≡ goes_on y
      → (stops_at (slice_get code.operations x.at.place) ≡ false → count ≡ 0) → Stands (inserting_many limited count x.point.gap x.point.state) (drained limited y.point.gap y.point.state)
  stands_to_end code n x y count e idle = to_end limited Stands stands_same stands_own stands_inserted stands_paced stands_through code n x y count e idle
