-- What a row makes of the count of messages, and that no run lowers it.
use Rattle.std.proofs.Common.{◌≡◌, ℕ, zero, suc, ◌+◌, ◌*◌, ◌-◌, ◌≤◌, true, cond, List, [], ◌∷◌, length, refl, sym, ap, subst, ◌∙◌, arith}
use Rattle.std.specs.Prelude.{slice_get, Option, Some, None, count_by}
use Rattle.mil_word.specs.declared.Line.{Line}
use Rattle.mil_message.specs.declared.messages.Message.{Message}
use Rattle.mil_message.specs.World.{World, Point, other_line, sent, asks, now_at, paced_to}
use Rattle.mil_line.specs.Plans.{Planned}
use Rattle.mil_bus.specs.declared.outcomes.Outcome.{Outcome}
use Rattle.frame_code.specs.declared.Op.{Op}
use Rattle.frame_code.specs.declared.Op.TheVariants.{Halt, Send, Alt, SetGap, Loop, Again, Leave, Jump, Test, JumpFalse, Call, Return, Begin, Pace}
use Rattle.frame_code.specs.Table.{Code, Registers, Running, Turn, goes_on, halted, stuck, act, sends, counted, turns, leaves, step, then_run, run, calls, comes_back, keeps_pace}
use Rattle.frame_code.specs.Routines.{routine_at}
use Rattle.frame_load.specs.Budget.{cost_of, one_sent}
use Rattle.bc_machine.specs.declared.placed.Placed.{Placed}
use Rattle.bc_machine.specs.MadeMessages.{own}
use Rattle.bc_machine.specs.Controller.{BusRun, setting_of, world_of, drained}
use Rattle.bc_machine.specs.Hosting.{inserted_in}
use Rattle.bc_machine.specs.Running.{is_own, stops_at}
use Rattle.bc_machine.proofs.Queued.{more_made, more_own}
use Rattle.bc_machine.proofs.Inserting.{waits, own_more, own_drained, long_drained, drained_is}

module _ (plan : List Planned) (placed : List Placed) (most : ℕ) where
  abbrev w : World BusRun Outcome
  w = world_of plan placed most

  -- from a point to a later one with so many messages of the script between: the number counts these, no message is
  -- taken back, and where none waits (Idle) none is inserted
  pub record IsLater (Idle : Type 0) (k : ℕ) (p q : Point BusRun Outcome) : Type 0 where
    pub counts : count_by is_own p.state.made ≡ p.number → count_by is_own q.state.made ≡ q.number
    pub rises : length p.state.made ≤ length q.state.made
    pub long : Idle → length q.state.made ≡ length p.state.made + k
    pub none : Idle → inserted_in q.state.made ≡ inserted_in p.state.made

  abbrev Goes : Type 0 → ℕ → Turn (Running BusRun Outcome) → Point BusRun Outcome → Type 0
  Goes Idle k t p = (x : Running BusRun Outcome) → t ≡ goes_on x → IsLater Idle k p x.point

  to : (Idle : Type 0) (a : Registers) (q p : Point BusRun Outcome) (k : ℕ) → IsLater Idle k p q → Goes Idle k (goes_on (record { at = a; point = q })) p
  to Idle a q p k h x e =
      let is : record { at = a; point = q } ≡ x = cc in
      subst (λ (y : Running BusRun Outcome). IsLater Idle k p y.point) is h

  -- the messages made stand as they were
  stays : {Idle : Type 0} (a : Registers) (q p : Point BusRun Outcome) → q.state.made ≡ p.state.made → q.number ≡ p.number → Goes Idle 0 (goes_on (record { at = a; point = q })) p
  stays {Idle} a q p made number =
      let same : length q.state.made ≡ length p.state.made = ap length made in
      to Idle a q p 0 (record {
        counts = λ h. ap (count_by is_own) made ∙ h ∙ sym number;
        rises = omega (arith, same);
        long = λ idle. omega (arith, same);
        none = λ idle. ap inserted_in made;
      })

  sends_go : {Idle : Type 0} (o : Option (Line × Message)) (on : Line → Line) (r : Registers) (p : Point BusRun Outcome) → (Idle → waits plan placed most p.state ≡ None) → Goes Idle 1 (sends w o on r p) p
  sends_go None on r p none x e = absurd cc
  sends_go {Idle} (Some m) on r p none x e =
      let before = drained (setting_of plan placed most) p.gap p.state in
      let same = own_drained plan placed most p.gap p.state in
      let grows = long_drained plan placed most p.gap p.state in
      let one = own_more before.made (own m.1) in
      let made = more_made before.made (own m.1) in
      to Idle (record r { place = r.place + 1; line = on m.0 }) (sent w (on m.0) m.1 p) p 1 (record {
        counts = λ h. omega (arith, h, same, one);
        rises = omega (arith, grows, made);
        long = λ idle. let here = ap (λ (v : BusRun). length v.made) (drained_is plan placed most 0 p.gap p.state (none idle)) in omega (arith, here, made);
        none = λ idle. more_own before.made m.1 ∙ ap (λ (v : BusRun). inserted_in v.made) (drained_is plan placed most 0 p.gap p.state (none idle));
      }) x e

  counted_go : {Idle : Type 0} (k : ℕ) (ns : List ℕ) (i : ℕ) (r : Registers) (p : Point BusRun Outcome) → Goes Idle 0 (counted w k ns i r p) p
  counted_go zero ns i r p x e = stays (record r { place = r.place + 1; counters = ns }) p p refl refl x e
  counted_go (suc k) ns i r p x e = stays (record r { place = i; counters = suc k ∷ ns }) p p refl refl x e

  turns_go : {Idle : Type 0} (ns : List ℕ) (i : ℕ) (r : Registers) (p : Point BusRun Outcome) → Goes Idle 0 (turns w ns i r p) p
  turns_go [] i r p x e = absurd cc
  turns_go (n ∷ ns) i r p x e = counted_go (n - 1) ns i r p x e

  leaves_go : {Idle : Type 0} (ns : List ℕ) (i : ℕ) (r : Registers) (p : Point BusRun Outcome) → Goes Idle 0 (leaves w ns i r p) p
  leaves_go [] i r p x e = absurd cc
  leaves_go (n ∷ ns) i r p x e = stays (record r { place = i; counters = ns }) p p refl refl x e

  calls_go : {Idle : Type 0} (o : Option ℕ) (r : Registers) (p : Point BusRun Outcome) → Goes Idle 0 (calls w o r p) p
  calls_go None r p x e = absurd cc
  calls_go (Some i) r p x e = stays (record r { place = i; returns = (r.place + 1) ∷ r.returns }) p p refl refl x e

  backs_go : {Idle : Type 0} (is : List ℕ) (r : Registers) (p : Point BusRun Outcome) → Goes Idle 0 (comes_back w is r p) p
  backs_go [] r p x e = absurd cc
  backs_go (i ∷ is) r p x e = stays (record r { place = i; returns = is }) p p refl refl x e

  paces_go : {Idle : Type 0} (bs : List ℕ) (h : ℕ) (r : Registers) (p : Point BusRun Outcome) → Goes Idle 0 (keeps_pace w bs h r p) p
  paces_go [] h r p x e = absurd cc
  paces_go (b ∷ bs) h r p x e = stays (record r { place = r.place + 1; frames = bs }) (paced_to w (b + 1000 * h) p) p refl refl x e

  pub act_goes : (o : Option Op) (code : Code) (r : Registers) (p : Point BusRun Outcome) → Goes (stops_at o ≡ true → waits plan placed most p.state ≡ None) (cost_of one_sent o) (act w o code r p) p
  act_goes None code r p x e = absurd cc
  act_goes (Some Halt) code r p x e = absurd cc
  act_goes (Some (Send m)) code r p x e = sends_go (slice_get code.messages m) (λ l. l) r p (λ idle. idle refl) x e
  act_goes (Some (Alt m)) code r p x e = sends_go (slice_get code.messages m) (λ l. other_line r.line) r p (λ idle. idle refl) x e
  act_goes (Some (SetGap t)) code r p x e = stays (record r { place = r.place + 1 }) (record p { gap = t }) p refl refl x e
  act_goes (Some (Loop n)) code r p x e = stays (record r { place = r.place + 1; counters = n ∷ r.counters }) p p refl refl x e
  act_goes (Some (Again i)) code r p x e = turns_go r.counters i r p x e
  act_goes (Some (Leave i)) code r p x e = leaves_go r.counters i r p x e
  act_goes (Some (Jump i)) code r p x e = stays (record r { place = i }) p p refl refl x e
  act_goes (Some (Test k)) code r p x e = stays (record r { place = r.place + 1; flag = asks w k p }) p p refl refl x e
  act_goes (Some (JumpFalse i)) code r p x e = stays (record r { place = cond r.flag (r.place + 1) i }) p p refl refl x e
  act_goes (Some (Call n)) code r p x e = calls_go (routine_at code.operations n) r p x e
  act_goes (Some Return) code r p x e = backs_go r.returns r p x e
  act_goes (Some Begin) code r p x e = stays (record r { place = r.place + 1; frames = now_at w p ∷ r.frames }) p p refl refl x e
  act_goes (Some (Pace h)) code r p x e = paces_go r.frames h r p x e

  pub run_rises : (code : Code) (n : ℕ) (r : Registers) (p : Point BusRun Outcome) (x : Running BusRun Outcome) → run w n code r p ≡ goes_on x → length p.state.made ≤ length x.point.state.made
  run_rises code zero r p x e = (stays {Idle = Unit {0}} r p p refl refl x e).rises
  run_rises code (suc n) r p x e = by_turn (step w code r p) refl e (λ y h. run_rises code n y.at y.point x h)
    where
      by_turn : (t : Turn (Running BusRun Outcome)) → step w code r p ≡ t → then_run w t (record { at = r; point = p }) (run w n code) ≡ goes_on x
          → ((y : Running BusRun Outcome) → run w n code y.at y.point ≡ goes_on x → length y.point.state.made ≤ length x.point.state.made) → length p.state.made ≤ length x.point.state.made
      by_turn (goes_on y) s h more =
          let first = (act_goes (slice_get code.operations r.place) code r p y s).rises in
          let rest = more y h in
          omega (arith, first, rest)
      by_turn halted s h more = (stays {Idle = Unit {0}} r p p refl refl x h).rises
      by_turn stuck s h more = absurd cc
