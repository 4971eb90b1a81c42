-- What every message of a controller keeps, of the script or inserted, whichever numbers count.
use Rattle.std.proofs.Common.{◌≡◌, ℕ, zero, suc, ◌+◌, ◌-◌, Bool, true, false, cond, [], ◌∷◌, ◌++◌, length, refl, sym, ap, ◌∙◌, subst, arith}
use Rattle.std.specs.Prelude.{Option, Some, None, slice_get}
use Rattle.mil_word.specs.declared.Line.{Line}
use Rattle.mil_message.specs.declared.messages.Message.{Message}
use Rattle.mil_message.specs.World.{Point, other_line, sent}
use Rattle.mil_bus.specs.declared.outcomes.Outcome.{Outcome}
use Rattle.mil_bus.specs.Exchange.{paced}
use Rattle.frame_code.specs.declared.Op.{Op}
use Rattle.frame_code.specs.declared.Op.TheVariants as op
use Rattle.frame_code.specs.Table.{Code, Registers, Running, Turn, goes_on, halted, stuck, sends, act, step, then_run, run}
use Rattle.controller_host.specs.Values.{InsertionValue}
use Rattle.bc_machine.specs.MadeMessages.{inserted}
use Rattle.bc_machine.specs.Hosting.{next_insertion, inserted_in}
use Rattle.bc_machine.specs.Controller.{Setting, BusRun, insertion_bus, with_insertion, with_own, inserted_next, inserting, inserting_many, drained, world_in}
use Rattle.bc_machine.specs.Running.{stops_at}
use Rattle.bc_machine.proofs.Queued.{more_inserted}
use Rattle.bc_machine.proofs.Inserting.{room}
use Rattle.job_file.proofs.Moves.{act_keeps, run_keeps}

module _ (s : Setting) where
  abbrev waits : BusRun → Option InsertionValue
  waits r = next_insertion s.placed s.most r.made

  abbrev added : ℕ → InsertionValue → BusRun → BusRun
  added gap x r = record { bus = insertion_bus s gap x r; made = r.made ++ inserted ∷ [] }

  -- the first of those that wait is sent with them
  first_drained : (gap : ℕ) (r : BusRun) (x : InsertionValue) → waits r ≡ Some x → s.counts (length r.made + 1) ≡ true → drained s gap (added gap x r) ≡ drained s gap r
  unfolding drained
  first_drained gap r x there counts =
      let n = s.most - inserted_in (r.made ++ inserted ∷ []) in
      let count : s.most - inserted_in r.made ≡ suc n = omega (arith, more_inserted r.made, room s.plan s.placed s.most r x there) in
      let here : inserting s gap r ≡ added gap x r = ap (λ o. inserted_next s gap o r) there ∙ ap (λ b. cond b (added gap x r) r) counts in
      ap (inserting_many s n gap) (sym here) ∙ ap (λ k. inserting_many s k gap r) (sym count)

  one_drained : (gap : ℕ) (r : BusRun) → drained s gap (inserting s gap r) ≡ drained s gap r
  one_drained gap r = by_next (waits r) refl
    where
      by_counts : (x : InsertionValue) → waits r ≡ Some x → (b : Bool) → s.counts (length r.made + 1) ≡ b → drained s gap (cond b (added gap x r) r) ≡ drained s gap r
      by_counts x there true counts = first_drained gap r x there counts
      by_counts x there false counts = refl

      by_next : (o : Option InsertionValue) → waits r ≡ o → drained s gap (inserted_next s gap o r) ≡ drained s gap r
      by_next None there = refl
      by_next (Some x) there = by_counts x there (s.counts (length r.made + 1)) refl

  many_drained : (n gap : ℕ) (r : BusRun) → drained s gap (inserting_many s n gap r) ≡ drained s gap r
  many_drained zero gap r = refl
  many_drained (suc n) gap r = many_drained n gap (inserting s gap r) ∙ one_drained gap r

module _ (s : Setting) (Q : BusRun → BusRun → Type 0) (same : (r : BusRun) → Q r r)
    (own_message : (line : Line) (m : Message) (gap : ℕ) (r : BusRun) → Q r (with_own s line m gap r))
    (insertion : (gap : ℕ) (x : InsertionValue) (r : BusRun) → Q r (with_insertion s gap x r))
    (later : (tick : ℕ) (r : BusRun) → Q r (record { bus = paced tick r.bus; made = r.made }))
    (through : (a b c : BusRun) → Q a b → Q b c → Q a c) where
  one : (gap : ℕ) (r : BusRun) → Q r (inserting s gap r)
  one gap r = by_next (waits s r)
    where
      by_next : (o : Option InsertionValue) → Q r (inserted_next s gap o r)
      by_next None = same r
      by_next (Some x) = insertion gap x r

  pub many : (n gap : ℕ) (r : BusRun) → Q r (inserting_many s n gap r)
  many zero gap r = same r
  many (suc n) gap r = through r (inserting s gap r) (inserting_many s n gap (inserting s gap r)) (one gap r) (many n gap (inserting s gap r))

  pub drains : (gap : ℕ) (r : BusRun) → Q r (drained s gap r)
  unfolding drained
  drains gap r = many (s.most - inserted_in r.made) gap r

  -- behind some of those that wait the others are sent
  drains_on : (n gap : ℕ) (r : BusRun) → Q (inserting_many s n gap r) (drained s gap r)
  drains_on n gap r = subst (Q (inserting_many s n gap r)) (many_drained s n gap r) (drains gap (inserting_many s n gap r))

  abbrev P : Point BusRun Outcome → Point BusRun Outcome → Type 0
  P p q = Q p.state q.state

  pub message : (line : Line) (m : Message) (p : Point BusRun Outcome) → P p (sent (world_in s) line m p)
  message line m p =
      let before = drained s p.gap p.state in
      through p.state before (with_own s line m p.gap before) (drains p.gap p.state) (own_message line m p.gap before)

  module _ (code : Code) where
    row : (o : Option Op) (r : Registers) (p : Point BusRun Outcome) (x : Running BusRun Outcome) → act (world_in s) o code r p ≡ goes_on x → P p x.point
    row o r p x e =
        act_keeps (world_in s) code P (λ p. same p.state) (λ p t. same p.state) message (λ t p. later t p.state) (λ p q z. through p.state q.state z.state) o code r p x e

    pub along : (n : ℕ) (r : Registers) (p : Point BusRun Outcome) (x : Running BusRun Outcome) → run (world_in s) n code r p ≡ goes_on x → P p x.point
    along n r p x e =
        run_keeps (world_in s) code P (λ p. same p.state) (λ p t. same p.state) message (λ t p. later t p.state) (λ p q z. through p.state q.state z.state) n r p x e

    -- ---- from a point of the run, behind messages that were inserted there

    sends_from : (o : Option (Line × Message)) (on : Line → Line) (r : Registers) (p : Point BusRun Outcome) (count : ℕ) (x : Running BusRun Outcome)
        → sends (world_in s) o on r p ≡ goes_on x → Q (inserting_many s count p.gap p.state) x.point.state
    sends_from None on r p count x e = absurd cc
    sends_from (Some m) on r p count x e =
        let is : record { at = record r { place = r.place + 1; line = on m.0 }; point = sent (world_in s) (on m.0) m.1 p } ≡ x = cc in
        let before = drained s p.gap p.state in
        subst (λ (v : Running BusRun Outcome). Q (inserting_many s count p.gap p.state) v.point.state) is
        (through (inserting_many s count p.gap p.state) before (with_own s (on m.0) m.1 p.gap before) (drains_on count p.gap p.state) (own_message (on m.0) m.1 p.gap before))

    at_once : (o : Option Op) (r : Registers) (p : Point BusRun Outcome) (count : ℕ) (x : Running BusRun Outcome) → act (world_in s) o code r p ≡ goes_on x → count ≡ 0
        → Q (inserting_many s count p.gap p.state) x.point.state
    at_once o r p count x e none = subst (λ k. Q (inserting_many s k p.gap p.state) x.point.state) (sym none) (row o r p x e)

    row_from : (o : Option Op) (r : Registers) (p : Point BusRun Outcome) (count : ℕ) (x : Running BusRun Outcome) → act (world_in s) o code r p ≡ goes_on x → (stops_at o ≡ false → count ≡ 0)
        → Q (inserting_many s count p.gap p.state) x.point.state
    row_from None r p count x e idle = at_once None r p count x e (idle refl)
    row_from (Some op.Halt) r p count x e idle = absurd cc
    row_from (Some (op.Send m)) r p count x e idle = sends_from (slice_get code.messages m) (λ l. l) r p count x e
    row_from (Some (op.Alt m)) r p count x e idle = sends_from (slice_get code.messages m) (λ l. other_line r.line) r p count x e
    row_from (Some (op.SetGap t)) r p count x e idle = at_once (Some (op.SetGap t)) r p count x e (idle refl)
    row_from (Some (op.Loop n)) r p count x e idle = at_once (Some (op.Loop n)) r p count x e (idle refl)
    row_from (Some (op.Again i)) r p count x e idle = at_once (Some (op.Again i)) r p count x e (idle refl)
    row_from (Some (op.Leave i)) r p count x e idle = at_once (Some (op.Leave i)) r p count x e (idle refl)
    row_from (Some (op.Jump i)) r p count x e idle = at_once (Some (op.Jump i)) r p count x e (idle refl)
    row_from (Some (op.Test k)) r p count x e idle = at_once (Some (op.Test k)) r p count x e (idle refl)
    row_from (Some (op.JumpFalse i)) r p count x e idle = at_once (Some (op.JumpFalse i)) r p count x e (idle refl)
    row_from (Some (op.Call n)) r p count x e idle = at_once (Some (op.Call n)) r p count x e (idle refl)
    row_from (Some op.Return) r p count x e idle = at_once (Some op.Return) r p count x e (idle refl)
    row_from (Some op.Begin) r p count x e idle = at_once (Some op.Begin) r p count x e (idle refl)
    row_from (Some (op.Pace h)) r p count x e idle = at_once (Some (op.Pace h)) r p count x e (idle refl)

    stays : (x y : Running BusRun Outcome) (count : ℕ) → x ≡ y → Q (inserting_many s count x.point.gap x.point.state) (drained s y.point.gap y.point.state)
    stays x y count is =
        subst (λ (v : Running BusRun Outcome). Q (inserting_many s count x.point.gap x.point.state) (drained s v.point.gap v.point.state)) is (drains_on count x.point.gap x.point.state)

    -- to a later point, and behind all that waits there
    pub to_end : (n : ℕ) (x y : Running BusRun Outcome) (count : ℕ) → run (world_in s) n code x.at x.point ≡ goes_on y
        → (stops_at (slice_get code.operations x.at.place) ≡ false → count ≡ 0) → Q (inserting_many s count x.point.gap x.point.state) (drained s y.point.gap y.point.state)
    to_end zero x y count e idle =
        let is : record { at = x.at; point = x.point } ≡ y = cc in
        stays x y count is
    to_end (suc n) x y count e idle = by_turn (step (world_in s) code x.at x.point) refl e
      where
        by_turn : (t : Turn (Running BusRun Outcome)) → step (world_in s) code x.at x.point ≡ t
            → then_run (world_in s) t (record { at = x.at; point = x.point }) (run (world_in s) n code) ≡ goes_on y
            → Q (inserting_many s count x.point.gap x.point.state) (drained s y.point.gap y.point.state)
        by_turn (goes_on z) is h =
            through (inserting_many s count x.point.gap x.point.state) z.point.state (drained s y.point.gap y.point.state)
            (row_from (slice_get code.operations x.at.place) x.at x.point count z is idle)
            (through z.point.state y.point.state (drained s y.point.gap y.point.state) (along n z.at z.point y h) (drains y.point.gap y.point.state))
        by_turn halted is h =
            let here : record { at = x.at; point = x.point } ≡ y = cc in
            stays x y count here
        by_turn stuck is h = absurd cc
