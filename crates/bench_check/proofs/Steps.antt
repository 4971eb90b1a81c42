-- A step of a job's controller leaves one less.
use Rattle.std.proofs.Common.{◌≡◌, ℕ, suc, ◌+◌, ◌-◌, ◌≤◌, false, cond, refl, sym, ap, ◌∙◌, arith}
use Rattle.std.specs.Prelude.{Option, Some, None, slice_get}
use Rattle.std.specs.Option.{is_some}
use Rattle.mil_bus.specs.declared.outcomes.Outcome.{Outcome}
use Rattle.frame_code.specs.Table.{Code, Running, Turn, goes_on, halted, stuck}
use Rattle.frame_load.specs.Budget.{budget}
use Rattle.controller_host.specs.Values.{InsertionValue}
use Rattle.bc_machine.specs.declared.upcoming.Upcoming.{Upcoming}
use Rattle.bc_machine.specs.Hosting.{next_insertion, inserted_in}
use Rattle.bc_machine.specs.Controller.{BusRun}
use Rattle.bc_machine.specs.Coming.{IsComing}
use Rattle.bc_machine.specs.Running.{MachineState, frames_point, most_inserted, turn_of, moved_by, waiting, stepped_with, stepped}
use Rattle.bc_machine.specs.UnderWay.{IsUnderWay}
use Rattle.bc_machine.proofs.Queued.{more_inserted}
use Rattle.bc_machine.proofs.Numbers.{act_goes}
use Rattle.job_file.proofs.JobRuns.{kept_with}
use Rattle.bench_check.specs.Trying.{steps_left}

-- of the code's steps, or of the messages that may be inserted
own_step : (all all_now taken taken_now most most_now count count_now : ℕ) → all_now ≡ all → taken_now ≡ taken + 1 → most_now ≡ most → count_now ≡ count → taken_now ≤ all_now
    → (all - taken) + (most - count) ≡ suc ((all_now - taken_now) + (most_now - count_now))
own_step all all_now taken taken_now most most_now count count_now a b c d low = omega arith

inserted_step : (all all_now taken taken_now most most_now count count_now : ℕ) → all_now ≡ all → taken_now ≡ taken → most_now ≡ most → count_now ≡ count + 1 → count_now ≤ most_now
    → (all - taken) + (most - count) ≡ suc ((all_now - taken_now) + (most_now - count_now))
inserted_step all all_now taken taken_now most most_now count count_now a b c d low = omega arith

-- a row of the operation table inserts nothing where nothing waits
row_inserts_none : (m n : MachineState) (t : Turn (Running BusRun Outcome)) → waiting m ≡ None → turn_of m ≡ t → n ≡ moved_by t m → inserted_in n.made ≡ inserted_in m.made
row_inserts_none m n (goes_on x) none e is =
    let next : Option InsertionValue = next_insertion m.placed (most_inserted m.code) m.made in
    ap (λ (v : MachineState). inserted_in v.made) is
    ∙ (act_goes m.plan m.placed (most_inserted m.code) (slice_get m.code.operations m.at.place) m.code m.at (frames_point m) x e).none (λ stops. ap (λ b. cond b next None) (sym stops) ∙ none)
row_inserts_none m n halted none e is = ap (λ (v : MachineState). inserted_in v.made) is
row_inserts_none m n stuck none e is = ap (λ (v : MachineState). inserted_in v.made) is

pub one_less : (m n : MachineState) → n ≡ stepped m → IsUnderWay n → (waiting m ≡ None → n.taken ≡ m.taken + 1) → steps_left m ≡ suc (steps_left n)
unfolding stepped
one_less m n is way took = by_waiting (waiting m) refl is
  where
    by_waiting : (o : Option InsertionValue) → waiting m ≡ o → n ≡ stepped_with o m → steps_left m ≡ suc (steps_left n)
    by_waiting None none there =
        let code : n.code ≡ m.code = ap (λ (v : MachineState). v.code) there ∙ (kept_with None m).0 in
        own_step (budget m.code.operations) (budget n.code.operations) m.taken n.taken (most_inserted m.code) (most_inserted n.code) (inserted_in m.made) (inserted_in n.made)
        (ap (λ (c : Code). budget c.operations) code) (took none) (ap most_inserted code) (row_inserts_none m n (turn_of m) none refl there) way.steps
    by_waiting (Some x) waits there =
        let code : n.code ≡ m.code = ap (λ (v : MachineState). v.code) there in
        inserted_step (budget m.code.operations) (budget n.code.operations) m.taken n.taken (most_inserted m.code) (most_inserted n.code) (inserted_in m.made) (inserted_in n.made)
        (ap (λ (c : Code). budget c.operations) code) (ap (λ (v : MachineState). v.taken) there) (ap most_inserted code)
        (ap (λ (v : MachineState). inserted_in v.made) there ∙ more_inserted m.made) way.inserts

-- a message of the script takes a step of the code
pub coming_took : (m : MachineState) (u : Upcoming) → IsComing m u → waiting m ≡ None → (stepped m).taken ≡ m.taken + 1
coming_took m u h none =
    let own : u.inserted ≡ false = h.inserted ∙ ap is_some none in
    h.taken ∙ ap (λ b. m.taken + cond b 0 1) own
