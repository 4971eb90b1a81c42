use Rattle.std.proofs.Common.{◌≡◌, ◌<◌, sym, ap, subst, ◌∙◌}
use Rattle.std.specs.Prelude.{Option}
use Rattle.bc_machine.specs.Running.{MachineState, HasEnded, stepped}
use Rattle.bc_machine.specs.UnderWay.{IsUnderWay, IsHalted}
use Rattle.job_moments.specs.declared.met.Met.{Met}
use Rattle.job_moments.specs.Planning.{PlanState}
use Rattle.job_file.specs.Resolving.{IsKept, turns_left}
use Rattle.job_file.specs.Timed.{made_of}
use Rattle.job_file.proofs.TurnLemmas.{IsBehind, behind_step, less_left, may_plan_still}
use Rattle.job_file.proofs.KeptLemmas.{few_met, kept_stepped, planned_behind}
use Rattle.job_file.proofs.RunLemmas.{none_met}
use Rattle.job_file.proofs.job_run.JobRun.step_at.Goals as goal

pub meet-requires-clause-whens : goal.meet-requires-clause-whens
meet-requires-clause-whens c =
    let r = c.args.self.now in
    few_met c.args.next r.whens.made (made_of r.machine) r.machine.point.number c.requires.few c.requires.kept.made c.requires.kept.number

pub meet-requires-clause-faults : goal.meet-requires-clause-faults
meet-requires-clause-faults c =
    let r = c.args.self.now in
    few_met c.args.next r.faults.made (made_of r.machine) r.machine.point.number c.requires.few c.requires.kept.met c.requires.kept.number

pub returns-in-Halted-clause-kept : goal.returns-in-Halted-clause-kept
returns-in-Halted-clause-kept c =
    let r = c.args.self.now in
    let halted : IsHalted r.machine c.step.new.self = c.in-Halted.ensures.tells in
    subst (λ (m : MachineState). IsKept (record r { machine = m })) (sym halted.same) c.requires.kept

pub returns-in-Halted-clause-planned : goal.returns-in-Halted-clause-planned
returns-in-Halted-clause-planned c =
    let r = c.args.self.now in
    let halted : IsHalted r.machine c.step.new.self = c.in-Halted.ensures.tells in
    may_plan_still r.faults.faults r.machine c.step.new.self (none_met r.machine halted.ended) halted.same c.requires.planned

pub returns-in-Halted-clause-ended : goal.returns-in-Halted-clause-ended
returns-in-Halted-clause-ended c ends =
    let halted : IsHalted c.args.self.now.machine c.step.new.self = c.in-Halted.ensures.tells in
    subst HasEnded (sym halted.same) halted.ended

pub returns-in_default-clause-kept : goal.returns-in_default-clause-kept
returns-in_default-clause-kept c =
    let r = c.args.self.now in
    let n = c.meet.new.self in
    let machine : n.machine ≡ stepped r.machine = c.meet.ensures.machine ∙ c.step.ensures.value in
    let way = subst IsUnderWay (sym c.meet.ensures.machine) c.step.ensures.under_way in
    let behind = subst (λ (o : Option Met). IsBehind o r.machine n.machine) (sym c.requires.next)
    (behind_step c.next_message_is_sent.ensures r.machine n.machine c.requires.kept.under_way machine) in
    kept_stepped r n c.args.next c.requires.kept machine way behind c.meet.ensures.whens c.meet.ensures.faults c.meet.ensures.origin

pub returns-in_default-clause-planned : goal.returns-in_default-clause-planned
returns-in_default-clause-planned c =
    let r = c.args.self.now in
    let n = c.meet.new.self in
    let machine : n.machine ≡ stepped r.machine = c.meet.ensures.machine ∙ c.step.ensures.value in
    let behind = subst (λ (o : Option Met). IsBehind o r.machine n.machine) (sym c.requires.next)
    (behind_step c.next_message_is_sent.ensures r.machine n.machine c.requires.kept.under_way machine) in
    planned_behind r n c.args.next machine (sym c.requires.next) behind (ap (λ (p : PlanState). p.faults) c.meet.ensures.faults) c.requires.planned

pub returns-in_default-clause-less : goal.returns-in_default-clause-less
returns-in_default-clause-less c goes =
    let m = c.args.self.now.machine in
    subst (λ (v : MachineState). turns_left v < turns_left m) (sym c.meet.ensures.machine)
    (less_left m c.step.new.self c.step.result c.step.ensures.value c.step.ensures.tells c.in_default.not-Halted c.step.ensures.under_way)
