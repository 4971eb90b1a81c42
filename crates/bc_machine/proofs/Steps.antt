-- Steps of a controller, one after the other.
use Rattle.std.proofs.Common.{◌≡◌, ◌≢◌, ℕ, zero, suc, ◌+◌, ◌-◌, ◌^◌, ◌≤◌, Option, Some, None, ap, sym, ◌∙◌, subst, refl, List, length, ⊎_elim, ◌⊎◌, inl, inr, arith}
use Rattle.std.specs.Prelude.{slice_get, count_by}
use Rattle.mil_line.specs.Plans.{Planned}
use Rattle.mil_bus.specs.Exchange.{BusState, now_of}
use Rattle.mil_bus.specs.declared.outcomes.Outcome.{Outcome}
use Rattle.frame_code.specs.Table.{Code, Running, Turn, goes_on, halted, stuck, step, act, start}
use Rattle.frame_code.specs.Loadable.{IsLoadable}
use Rattle.frame_load.specs.Budget.{budget, worst_messages}
use Rattle.frame_load.specs.Judging.{IsWithin, HasShortPeriods}
use Rattle.frame_load.specs.Runs.{HaltsWithin, EachLoadable, EachReached}
use Rattle.controller_host.specs.Values.{InsertionValue}
use Rattle.bc_machine.specs.declared.placed.Placed.{Placed}
use Rattle.bc_machine.specs.MadeMessages.{inserted}
use Rattle.bc_machine.specs.Hosting.{inserted_in}
use Rattle.bc_machine.specs.Controller.{BusRun}
use Rattle.bc_machine.specs.Running.{MachineState, HasEnded, started, world_in, beginning, frames_point, bus_run, is_own, most_inserted, turn_of, moved_by, waiting, stepped_with, stepped, after_steps}
use Rattle.bc_machine.specs.UnderWay.{IsReached, IsUnderWay}
use Rattle.bc_machine.proofs.Queued.{more_made, more_inserted}
use Rattle.bc_machine.proofs.Inserting.{room, both_kinds}
use Rattle.bc_machine.proofs.Numbers.{act_goes}
use Rattle.bc_machine.proofs.Reached.{here, own_is, reaches, going, none_of, waits_at, reached_next, is_halt}
use Rattle.bc_machine.proofs.Runs.{run_stays}

-- what steps keep
pub record IsRunning (m : MachineState) : Type 0 where
  pub loadable : IsLoadable m.code
  pub reached : IsReached m
  pub number : m.point.number ≡ length m.made
  pub inserts : inserted_in m.made ≤ most_inserted m.code

pub running_at_start : (code : Code) (b : BusState) (plan : List Planned) (placed : List Placed) → IsLoadable code → IsRunning (started code b plan placed)
running_at_start code b plan placed ok = record {
  loadable = ok;
  reached = record { point = beginning b; count = 0; run = refl; here = refl; sent = refl; idle = λ quiet. refl };
  number = refl;
  inserts = omega arith;
}

-- as it starts
pub under_way_at_start : (code : Code) (b : BusState) (plan : List Planned) (placed : List Placed) → IsLoadable code → IsWithin code → HasShortPeriods code → now_of b ≤ 2 ^ 47 → IsUnderWay (started code b plan placed)
under_way_at_start code b plan placed ok within short low =
    let r = running_at_start code b plan placed ok in
    record {
      loadable = ok;
      within = within;
      short = short;
      reached = r.reached;
      steps = omega arith;
      number = refl;
      messages = omega arith;
      inserts = omega arith;
      clock = omega (arith, low);
      begun = tt;
    }

-- how many steps were taken, of the code and for inserted messages
abbrev pub taken_in : MachineState → ℕ
taken_in m = m.taken + inserted_in m.made

abbrev pub NeverStuck : Type 0
NeverStuck = EachReached BusRun Outcome (λ w code from x. step w code x.at x.point ≢ stuck)

pub never : NeverStuck → (m : MachineState) → IsRunning m → turn_of m ≢ stuck
never law m r = going m r.reached (law (world_in m) m.code (beginning m.begun) (here m r.reached) r.loadable (reaches m r.reached))

-- ---- one step

moved_inserts : (m : MachineState) (t : Turn (Running BusRun Outcome)) → IsRunning m → waiting m ≡ None → turn_of m ≡ t → inserted_in (moved_by t m).made ≡ inserted_in m.made
moved_inserts m (goes_on x) r none e =
    (act_goes m.plan m.placed (most_inserted m.code) (slice_get m.code.operations m.at.place) m.code m.at (frames_point m) x e).none (none_of m r.reached none)
moved_inserts m halted r none e = refl
moved_inserts m stuck r none e = refl

moved_number : (m : MachineState) (t : Turn (Running BusRun Outcome)) → IsRunning m → (moved_by t m).point.number ≡ length (moved_by t m).made
moved_number m (goes_on x) r = refl
moved_number m halted r = r.number
moved_number m stuck r = r.number

moved_code : (m : MachineState) (t : Turn (Running BusRun Outcome)) → (moved_by t m).code ≡ m.code
moved_code m (goes_on x) = refl
moved_code m halted = refl
moved_code m stuck = refl

code_with : (m : MachineState) (o : Option InsertionValue) → (stepped_with o m).code ≡ m.code
code_with m None = moved_code m (turn_of m)
code_with m (Some x) = refl

code_next : (m : MachineState) → (stepped m).code ≡ m.code
unfolding stepped
code_next m = code_with m (waiting m)

number_with : (m : MachineState) (o : Option InsertionValue) → IsRunning m → (stepped_with o m).point.number ≡ length (stepped_with o m).made
number_with m None r = moved_number m (turn_of m) r
number_with m (Some x) r = omega (arith, r.number, more_made m.made inserted)

number_next : (m : MachineState) → IsRunning m → (stepped m).point.number ≡ length (stepped m).made
unfolding stepped
number_next m r = number_with m (waiting m) r

inserts_with : (m : MachineState) (o : Option InsertionValue) → IsRunning m → waiting m ≡ o → inserted_in (stepped_with o m).made ≤ most_inserted m.code
inserts_with m None r e = let same = moved_inserts m (turn_of m) r e refl in omega (arith, same, r.inserts)
inserts_with m (Some x) r e =
    let left = room m.plan m.placed (most_inserted m.code) (bus_run m) x (waits_at m x e).1 in
    let more = more_inserted m.made in
    omega (arith, left, more)

inserts_next : (m : MachineState) → IsRunning m → inserted_in (stepped m).made ≤ most_inserted m.code
unfolding stepped
inserts_next m r = inserts_with m (waiting m) r refl

running_next : (m : MachineState) → IsRunning m → IsRunning (stepped m)
running_next m r = record {
  loadable = subst IsLoadable (sym (code_next m)) r.loadable;
  reached = reached_next m r.reached;
  number = number_next m r;
  inserts = subst (λ code. inserted_in (stepped m).made ≤ most_inserted code) (sym (code_next m)) (inserts_next m r);
}

pub after_running : (n : ℕ) (m : MachineState) → IsRunning m → IsRunning (after_steps n m)
after_running zero m r = r
after_running (suc n) m r = after_running n (stepped m) (running_next m r)

pub code_after : (n : ℕ) (m : MachineState) → (after_steps n m).code ≡ m.code
code_after zero m = refl
code_after (suc n) m = code_after n (stepped m) ∙ code_next m

-- ---- it ends

ended_next : (m : MachineState) → HasEnded m → stepped m ≡ m
unfolding stepped
ended_next m h = ap (λ o. stepped_with o m) h.none ∙ ap (λ t. moved_by t m) h.halts

ended_after : (n : ℕ) (m : MachineState) → HasEnded m → after_steps n m ≡ m
ended_after zero m h = refl
ended_after (suc n) m h = ap (after_steps n) (ended_next m h) ∙ ended_after n m h

-- it has ended, or one more step is taken
abbrev Goes : MachineState → MachineState → Type 0
Goes m n = HasEnded m ⊎ (taken_in n ≡ taken_in m + 1)

moved_goes : (m : MachineState) (t : Turn (Running BusRun Outcome)) → IsRunning m → waiting m ≡ None → turn_of m ≡ t → t ≢ stuck → Goes m (moved_by t m)
moved_goes m (goes_on x) r none e going = let same = moved_inserts m (goes_on x) r none e in inr (omega (arith, same))
moved_goes m halted r none e going = inl (record { halts = e; none = none })
moved_goes m stuck r none e going = absurd (going refl)

goes_with : (m : MachineState) (o : Option InsertionValue) → IsRunning m → waiting m ≡ o → turn_of m ≢ stuck → Goes m (stepped_with o m)
goes_with m None r e going = moved_goes m (turn_of m) r e refl going
goes_with m (Some x) r e going = let more = more_inserted m.made in inr (omega (arith, more))

goes_next : (m : MachineState) → IsRunning m → turn_of m ≢ stuck → Goes m (stepped m)
unfolding stepped
goes_next m r going = goes_with m (waiting m) r refl going

ends_or_goes : NeverStuck → (n : ℕ) (m : MachineState) → IsRunning m → HasEnded (after_steps n m) ⊎ (taken_in (after_steps n m) ≡ taken_in m + n)
ends_or_goes law zero m r = inr (omega arith)
ends_or_goes law (suc n) m r =
    ⊎_elim (λ h. inl (subst HasEnded (sym (ended_after (suc n) m h)) h))
    (λ one. ⊎_elim (λ h. inl h) (λ more. inr (omega (arith, one, more))) (ends_or_goes law n (stepped m) (running_next m r)))
    (goes_next m r (never law m r))

-- where it took as many steps of the code as it takes at most
at_end : EachLoadable BusRun Outcome (λ w code from. HaltsWithin w code (budget code.operations - 1) (start code) from) → (m : MachineState) → IsRunning m → budget m.code.operations - 1 ≤ m.taken → turn_of m ≡ halted
at_end law m r le =
    let h = law (world_in m) m.code (beginning m.begun) r.loadable in
    let last : goes_on h.last ≡ goes_on (here m r.reached) = sym (run_stays (world_in m) m.code (budget m.code.operations - 1) m.taken (start m.code) (beginning m.begun) h.last h.halts h.comes le) ∙ r.reached.run in
    let same : h.last ≡ here m r.reached = cc in
    let halts : step (world_in m) m.code m.at r.reached.point ≡ halted = ap (λ (x : Running BusRun Outcome). step (world_in m) m.code x.at x.point) (sym same) ∙ h.halts in
    ap (λ o. act (world_in m) o m.code m.at (frames_point m)) (is_halt (world_in m) (slice_get m.code.operations m.at.place) m.code m.at r.reached.point halts)

pub halts_after : NeverStuck → EachLoadable BusRun Outcome (λ w code from. HaltsWithin w code (budget code.operations - 1) (start code) from)
    → (m : MachineState) → IsRunning m → taken_in m ≡ 0 → turn_of (after_steps ((budget m.code.operations - 1) + most_inserted m.code) m) ≡ halted
halts_after never_law halts_law m r begins =
    let n = (budget m.code.operations - 1) + most_inserted m.code in
    let z = after_steps n m in
    let zr = after_running n m r in
    let code = code_after n m in
    let inserts : inserted_in z.made ≤ most_inserted m.code = subst (λ (c : Code). inserted_in z.made ≤ most_inserted c) code zr.inserts in
    ⊎_elim (λ h. h.halts)
    (λ goes.
    let late : budget m.code.operations - 1 ≤ z.taken = omega (arith, goes, begins, inserts) in
    at_end halts_law z zr (subst (λ (c : Code). budget c.operations - 1 ≤ z.taken) (sym code) late))
    (ends_or_goes never_law n m r)

-- ---- how many messages

pub own_after : EachReached BusRun Outcome (λ w code from x. x.point.number ≤ from.number + worst_messages code.operations)
    → (n : ℕ) (m : MachineState) → IsRunning m → count_by is_own (after_steps n m).made ≤ worst_messages m.code.operations
own_after law n m r =
    let z = after_steps n m in
    let zr = after_running n m r in
    let few : zr.reached.point.number ≤ 0 + worst_messages z.code.operations = law (world_in z) z.code (beginning z.begun) (here z zr.reached) zr.loadable (reaches z zr.reached) in
    let same : worst_messages z.code.operations ≡ worst_messages m.code.operations = ap (λ (c : Code). worst_messages c.operations) (code_after n m) in
    omega (arith, few, same, own_is z zr.reached)

pub all_after : EachReached BusRun Outcome (λ w code from x. x.point.number ≤ from.number + worst_messages code.operations)
    → (n : ℕ) (m : MachineState) → IsRunning m → worst_messages m.code.operations ≤ 1000000 → (after_steps n m).point.number ≤ 1000000
all_after law n m r few =
    let z = after_steps n m in
    let zr = after_running n m r in
    let inserts : inserted_in z.made ≤ most_inserted m.code = subst (λ (c : Code). inserted_in z.made ≤ most_inserted c) (code_after n m) zr.inserts in
    omega (arith, few, inserts, own_after law n m r, both_kinds z.made, zr.number)
