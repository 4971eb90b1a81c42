-- What a controller keeps over a step.
use Rattle.std.proofs.Common.{◌≡◌, ◌≢◌, ℕ, suc, ◌+◌, ◌-◌, ◌*◌, ◌≤◌, ◌<◌, ◌^◌, Option, Some, None, length, sym, ap, subst, refl, ◌∙◌, arith}
use Rattle.std.specs.Prelude.{slice_get, count_by}
use Rattle.mil_bus.specs.declared.outcomes.Outcome.{Outcome}
use Rattle.frame_code.specs.declared.Op.{Op}
use Rattle.frame_code.specs.declared.Op.TheVariants as op
use Rattle.frame_code.specs.Table.{Running, Turn, goes_on, halted, stuck, step, run, start}
use Rattle.frame_load.specs.Budget.{budget, worst_messages, total, cost_of, one_period, one_sent}
use Rattle.frame_load.specs.Runs.{HaltsWithin, EachLoadable, EachReached, paid}
use Rattle.controller_host.specs.Values.{InsertionValue}
use Rattle.bc_machine.specs.declared.Stepped.{Stepped}
use Rattle.bc_machine.specs.declared.Stepped.TheVariants.{Ran, Sent, Inserted, Halted}
use Rattle.bc_machine.specs.MadeMessages.{inserted}
use Rattle.bc_machine.specs.Hosting.{inserted_in}
use Rattle.bc_machine.specs.Controller.{BusRun}
use Rattle.bc_machine.specs.Running.{MachineState, world_in, beginning, turn_of, moved_by, waiting, with_inserted, stepped_with, stepped, answered, clock_in, frames_point, bus_run, is_own, most_inserted}
use Rattle.bc_machine.specs.Frames.{HaveBegun, most_ticks, most_ticks_with}
use Rattle.bc_machine.specs.UnderWay.{IsUnderWay, TellsStep}
use Rattle.bc_machine.specs.MayStep.{IsAble}
use Rattle.bc_machine.proofs.OpenFrames.{begun_next}
use Rattle.bc_machine.proofs.Numbers.{act_goes}
use Rattle.bc_machine.proofs.Queued.{more_made, more_inserted}
use Rattle.bc_machine.proofs.Inserting.{both_kinds, own_more, room}
use Rattle.bc_machine.proofs.Reached.{here, reaches, turn_is, run_on, waits_at, none_of, moved_reached, inserted_reached, going as going_on}
use Rattle.bc_machine.proofs.Runs.{paid_more, before_end}
use Rattle.bc_machine.proofs.Told.{told}

-- the laws of loadable codes on a bus
pub record Laws : Type 0 where
  pub never_stuck : EachReached BusRun Outcome (λ w code from x. step w code x.at x.point ≢ stuck)
  pub inside : EachReached BusRun Outcome (λ w code from x. x.at.place < length code.operations)
  pub room : EachReached BusRun Outcome (λ w code from x. (n : ℕ) → slice_get code.operations x.at.place ≡ Some (op.Loop n) → length x.at.counters < 17)
  pub room_to_call : EachReached BusRun Outcome (λ w code from x. (k : ℕ) → slice_get code.operations x.at.place ≡ Some (op.Call k) → length x.at.returns < 32)
  pub room_to_begin : EachReached BusRun Outcome (λ w code from x. slice_get code.operations x.at.place ≡ Some op.Begin → length x.at.frames < 16)
  pub messages : EachReached BusRun Outcome (λ w code from x. x.point.number ≤ from.number + worst_messages code.operations)
  pub halts : EachLoadable BusRun Outcome (λ w code from. HaltsWithin w code (budget code.operations - 1) (start code) from)
  pub costs : EachLoadable BusRun Outcome (λ w code from. (cost : Op → ℕ) (n : ℕ) → paid w cost n code (start code) from ≤ total cost code.operations)

-- at most 1,000,000 messages
pub few : (m : MachineState) → IsUnderWay m → m.point.number ≤ 1000000
few m u =
    let both = both_kinds m.made in
    omega (arith, both, u.number, u.messages, u.inserts, u.within.1)

-- now is small
low : Laws → (m : MachineState) → IsUnderWay m → clock_in m ≤ 2 ^ 47 + 2 ^ 46 + 1000000 * 2 ^ 24
low laws m u =
    let short = laws.costs (world_in m) m.code (beginning m.begun) u.loadable one_period m.taken in
    omega (arith, u.clock, short, u.short, few m u)

module _ (laws : Laws) (m : MachineState) (u : IsUnderWay m) where
  abbrev at : Running BusRun Outcome
  at = here m u.reached

  going : turn_of m ≢ stuck
  going = going_on m u.reached (laws.never_stuck (world_in m) m.code (beginning m.begun) at u.loadable (reaches m u.reached))

  pub able : IsAble m
  able = record {
    image = u.loadable.image;
    going = going;
    inside = laws.inside (world_in m) m.code (beginning m.begun) at u.loadable (reaches m u.reached);
    room = λ n e. laws.room (world_in m) m.code (beginning m.begun) at u.loadable (reaches m u.reached) n e;
    room_to_call = λ k e. laws.room_to_call (world_in m) m.code (beginning m.begun) at u.loadable (reaches m u.reached) k e;
    room_to_begin = λ e. laws.room_to_begin (world_in m) m.code (beginning m.begun) at u.loadable (reaches m u.reached) e;
    number = few m u;
    counted = u.number;
    taken = omega (arith, u.steps, u.within.0);
    clock = omega (arith, low laws m u);
    begun = u.begun;
  }

  -- now is no earlier
  later : (n : MachineState) (r : Stepped) → TellsStep m n r → clock_in m ≤ clock_in n
  later n Ran t = t.later
  later n (Sent r) t = omega (arith, t.paced, t.message.ends)
  later n (Inserted r) t =
      let follows = t.message.follows in
      let ends = t.message.ends in
      let least = t.least_start in
      omega (arith, follows, ends, least)
  later n Halted t = let same : clock_in n ≡ clock_in m = ap clock_in t.same in omega (arith, same)

  -- where a row moves now by no more than it may
  moved : (t : Turn (Running BusRun Outcome)) → waiting m ≡ None → turn_of m ≡ t → clock_in (moved_by t m) ≤ clock_in m + most_ticks_with None m → (clock_in (moved_by t m) < 2 ^ 48 → HaveBegun (moved_by t m)) → IsUnderWay (moved_by t m)
  moved (goes_on x) none e soon begun =
      let w = world_in m in
      let first = beginning m.begun in
      let o = slice_get m.code.operations m.at.place in
      let one : suc m.taken ≡ m.taken + 1 = omega arith in
      let turn : step w m.code m.at u.reached.point ≡ goes_on x = turn_is m u.reached none ∙ e in
      let more : run w (m.taken + 1) m.code (start m.code) first ≡ goes_on x = run_on m u.reached x none e in
      let pays : paid w one_period (m.taken + 1) m.code (start m.code) first ≡ paid w one_period m.taken m.code (start m.code) first + cost_of one_period o =
      subst (λ n. paid w one_period n m.code (start m.code) first ≡ paid w one_period m.taken m.code (start m.code) first + cost_of one_period o) one
      (paid_more w m.code one_period m.taken (start m.code) first at x turn u.reached.run) in
      let less : m.taken < budget m.code.operations - 1 = before_end w m.code (budget m.code.operations - 1) m.taken first at x (laws.halts w m.code first u.loadable) u.reached.run turn in
      let sent : x.point.number ≤ 0 + worst_messages m.code.operations = laws.messages w m.code first x u.loadable (m.taken + 1, more) in
      let after = act_goes m.plan m.placed (most_inserted m.code) o m.code m.at (frames_point m) x e in
      let counts : count_by is_own x.point.state.made ≡ x.point.number = after.counts refl in
      let long : length x.point.state.made ≡ length m.made + cost_of one_sent o = after.long (none_of m u.reached none) in
      let same : inserted_in x.point.state.made ≡ inserted_in m.made = after.none (none_of m u.reached none) in
      let both = both_kinds x.point.state.made in
      let clock : clock_in (moved_by (goes_on x) m) ≤ 2 ^ 47 + paid w one_period (m.taken + 1) m.code (start m.code) first + length x.point.state.made * 2 ^ 24 = omega (arith, u.clock, u.number, soon, pays, long) in
      let short = laws.costs w m.code first u.loadable one_period (m.taken + 1) in
      record {
        loadable = u.loadable;
        within = u.within;
        short = u.short;
        reached = moved_reached m u.reached (goes_on x) none e;
        steps = omega (arith, less);
        number = refl;
        messages = omega (arith, counts, sent);
        inserts = omega (arith, same, u.inserts);
        clock = clock;
        begun = begun (omega (arith, clock, short, u.short, both, counts, sent, same, u.inserts, u.within.1));
      }
  moved halted none e soon begun = u
  moved stuck none e soon begun = u

  inserted_next : (x : InsertionValue) → waiting m ≡ Some x → clock_in (with_inserted m x) ≤ clock_in m + most_ticks_with (Some x) m → (clock_in (with_inserted m x) < 2 ^ 48 → HaveBegun (with_inserted m x)) → IsUnderWay (with_inserted m x)
  inserted_next x e soon begun =
      let w = world_in m in
      let first = beginning m.begun in
      let left = room m.plan m.placed (most_inserted m.code) (bus_run m) x (waits_at m x e).1 in
      let own = own_more m.made inserted in
      let more = more_inserted m.made in
      let long = more_made m.made inserted in
      let clock : clock_in (with_inserted m x) ≤ 2 ^ 47 + paid w one_period m.taken m.code (start m.code) first + (m.point.number + 1) * 2 ^ 24 = omega (arith, u.clock, soon) in
      let short = laws.costs w m.code first u.loadable one_period m.taken in
      let both = both_kinds m.made in
      record {
        loadable = u.loadable;
        within = u.within;
        short = u.short;
        reached = inserted_reached m u.reached x e;
        steps = u.steps;
        number = omega (arith, u.number, long);
        messages = omega (arith, own, u.messages);
        inserts = omega (arith, more, left);
        clock = clock;
        begun = begun (omega (arith, clock, short, u.short, both, u.number, u.messages, left, u.within.1));
      }

  by_waiting : (o : Option InsertionValue) → waiting m ≡ o → clock_in (stepped_with o m) ≤ clock_in m + most_ticks_with o m → (clock_in (stepped_with o m) < 2 ^ 48 → HaveBegun (stepped_with o m)) → IsUnderWay (stepped_with o m)
  by_waiting None e soon begun = moved (turn_of m) e refl soon begun
  by_waiting (Some x) e soon begun = inserted_next x e soon begun

  moved_on : clock_in (stepped m) ≤ clock_in m + most_ticks m → (clock_in (stepped m) < 2 ^ 48 → HaveBegun (stepped m)) → IsUnderWay (stepped m)
  unfolding stepped
  moved_on soon begun = by_waiting (waiting m) refl soon begun

  pub next : clock_in (stepped m) ≤ clock_in m + most_ticks m → IsUnderWay (stepped m)
  next soon = moved_on soon (λ small. begun_next m (later (stepped m) (answered m) (told m u.number going small)) u.begun)

  pub tells : clock_in (stepped m) ≤ clock_in m + most_ticks m → TellsStep m (stepped m) (answered m)
  tells soon = told m u.number going (omega (arith, low laws (stepped m) (next soon)))

pub next_is : (laws : Laws) (m n : MachineState) → IsUnderWay m → n ≡ stepped m → clock_in n ≤ clock_in m + most_ticks m → IsUnderWay n
next_is laws m n u is soon =
    let soon_at : clock_in (stepped m) ≤ clock_in m + most_ticks m = subst (λ z. clock_in z ≤ clock_in m + most_ticks m) is soon in
    subst IsUnderWay (sym is) (next laws m u soon_at)

pub tells_is : (laws : Laws) (m n entry : MachineState) (r : Stepped) → IsUnderWay m → n ≡ stepped m → r ≡ answered m → m ≡ entry → clock_in n ≤ clock_in m + most_ticks m → TellsStep entry n r
tells_is laws m n entry r u is says same soon =
    let soon_at : clock_in (stepped m) ≤ clock_in m + most_ticks m = subst (λ z. clock_in z ≤ clock_in m + most_ticks m) is soon in
    subst (λ z. TellsStep z n r) same (subst (λ a. TellsStep m n a) (sym says) (subst (λ z. TellsStep m z (answered m)) (sym is) (tells laws m u soon_at)))
