use Rattle.std.proofs.Common.{◌≡◌, ◌+◌, ap, sym, ◌∙◌, arith}
use Rattle.bc_machine.specs.Running.{MachineState}
use Rattle.bc_machine.specs.Coming.{IsComing, IsStill}
use Rattle.bc_machine.specs.UnderWay.{IsQuiet, IsHalted}
use Rattle.job_file.specs.Jobs.{job_in}
use Rattle.job_file.specs.Machines.{IsOf}
use Rattle.job_file.proofs.Nexts.{next_of, all_given}
use Rattle.bench_check.specs.Overruns.{overruns}
use Rattle.bench_check.specs.Trying.{steps_left}
use Rattle.bench_check.specs.Unmet.{made, unmet_up_to}
use Rattle.bench_check.proofs.Noted.{one_more, no_more}
use Rattle.bench_check.proofs.Overruns.{one_more_step, all_there}
use Rattle.bench_check.proofs.Steps.{one_less, coming_took}
use Rattle.bench_check.proofs.Told.{told_message, told_still, told_all}
use Rattle.bench_check.proofs.trying.Trial.step.Goals as goal

pub returns-in_ok-write_all-in-Some-clause-on : goal.returns-in_ok-write_all-in-Some-clause-on
returns-in_ok-write_all-in-Some-clause-on g c = λ yes.
    let job = c.args.job.now in
    let h : IsComing c.args.self.now.machine c.in-Some.coming = rw c.in-Some.is at c.in_ok-coming.ensures in
    let left = one_less c.args.self.now.machine c.step.new.self c.step.ensures.value c.step.ensures.under_way
    (λ none. ap (λ (z : MachineState). z.taken) c.step.ensures.value ∙ coming_took c.args.self.now.machine c.in-Some.coming h none) in
    let next : IsOf (job_in c.args.job.now) c.args.job.now.actions c.step.new.self = next_of c.job_runs.ensures.goes_on (job_in job) job.actions c.args.self.now.machine c.step.new.self c.step.ensures.value c.requires.tried.of c.step.ensures.under_way in
    record {
      tried = record {
        of = next;
        unmet = one_more c.job_runs.ensures.bus job c.args.self.now.machine c.step.new.self c.in-Some.coming (c.number-number.result + 1) c.args.self.now.unmet.items c.note.new.unmet.items c.program-sound.ensures.sound c.requires.tried.of next c.step.ensures.value h (ap (λ i. i + 1) c.number-number.ensures.value) c.requires.tried.unmet c.in_ok-text-in-Some.ensures;
        overruns = one_more_step c.args.self.now.overruns.items c.close.new.overruns.items (overruns job) c.args.self.now.machine c.step.new.self (steps_left c.args.self.now.machine) (steps_left c.step.new.self) c.step.ensures.value left c.in_ok-close.ensures.kept c.requires.tried.overruns;
      };
      smaller = omega (arith, left);
    }

pub returns-in-Ran-clause-on : goal.returns-in-Ran-clause-on
returns-in-Ran-clause-on g c = λ yes.
    let job = c.args.job.now in
    let still : IsStill c.args.self.now.machine = rw c.in-None.is at c.in_ok-coming.ensures in
    let quiet : IsQuiet c.args.self.now.machine c.step-in-None.new.self = c.in-Ran.ensures.tells in
    let left = one_less c.args.self.now.machine c.step-in-None.new.self c.step-in-None.ensures.value c.step-in-None.ensures.under_way (λ none. quiet.taken) in
    record {
      tried = record {
        of = next_of c.job_runs.ensures.goes_on (job_in job) job.actions c.args.self.now.machine c.step-in-None.new.self c.step-in-None.ensures.value c.requires.tried.of c.step-in-None.ensures.under_way;
        unmet = no_more job c.args.self.now.machine c.step-in-None.new.self c.args.self.now.unmet.items c.step-in-None.ensures.value still c.requires.tried.unmet;
        overruns = one_more_step c.args.self.now.overruns.items c.close.new.overruns.items (overruns job) c.args.self.now.machine c.step-in-None.new.self (steps_left c.args.self.now.machine) (steps_left c.step-in-None.new.self) c.step-in-None.ensures.value left c.in_ok-close.ensures.kept c.requires.tried.overruns;
      };
      smaller = omega (arith, left);
    }

pub returns-in-Halted-clause-ends : goal.returns-in-Halted-clause-ends
returns-in-Halted-clause-ends g c = λ no.
    let job = c.args.job.now in
    let h : IsHalted c.args.self.now.machine c.step-in-None.new.self = c.in-Halted.ensures.tells in
    let number : c.args.self.now.machine.point.number ≡ c.step-in-None.new.self.point.number = sym (ap (λ (z : MachineState). z.point.number) h.same) in
    let all : c.step-in-None.new.self.point.number ≡ made c.args.job.now = all_given c.job_runs.ensures.whole c.job_runs.ensures.counts (job_in job) job.actions c.args.self.now.machine c.step-in-None.new.self.point.number c.program-sound.ensures.sound c.requires.tried.of h.ended number in
    record {
      sent = all;
      unmet = c.requires.tried.unmet ∙ ap (unmet_up_to job) (number ∙ all);
      overruns = all_there c.args.self.now.overruns.items c.close.new.overruns.items (overruns job) (steps_left c.args.self.now.machine) c.args.self.now.machine h.ended c.requires.tried.overruns c.in_ok-close.ensures.kept;
    }

pub returns-in_ok-write_all-in-Some-clause-told : goal.returns-in_ok-write_all-in-Some-clause-told
returns-in_ok-write_all-in-Some-clause-told g c = λ yes before so_far.
    let h : IsComing c.args.self.now.machine c.in-Some.coming = rw c.in-Some.is at c.in_ok-coming.ensures in
    told_message c.args.job.now c.args.self.now.machine c.step.new.self before _ _ _ _ so_far c.step.ensures.value h.number c.in_ok-close.ensures.told c.in_ok-write_all-in-Some.ensures.bytes

pub returns-in-Ran-clause-told : goal.returns-in-Ran-clause-told
returns-in-Ran-clause-told g c = λ yes before so_far.
    told_still c.args.job.now c.args.self.now.machine c.step-in-None.new.self before _ _ so_far c.step-in-None.ensures.value c.in_ok-close.ensures.told

pub returns-in-Halted-clause-last : goal.returns-in-Halted-clause-last
returns-in-Halted-clause-last g c = λ no before so_far.
    let h : IsHalted c.args.self.now.machine c.step-in-None.new.self = c.in-Halted.ensures.tells in
    told_all c.args.job.now c.args.self.now.machine before _ _ so_far h.ended c.in_ok-close.ensures.told
