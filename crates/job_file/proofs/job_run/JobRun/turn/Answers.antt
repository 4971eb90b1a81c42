use Rattle.std.proofs.Common.{◌≡◌, ◌<◌, [], ◌⊎◌, true, List, map, sym, ap, subst, ◌∙◌}
use Rattle.bc_machine.specs.Running.{stepped}
use Rattle.job_moments.specs.Planning.{PlanState}
use Rattle.job_moments.specs.Waits.{Awaited, Waits}
use Rattle.job_file.specs.declared.job_run.Due.{Due}
use Rattle.job_file.specs.Resolving.{standing, when_of, turns_left, IsPlannedUpTo}
use Rattle.job_file.specs.Timed.{Standing, faulted}
use Rattle.job_file.proofs.ComingLemmas.{few_faulted}
use Rattle.job_file.proofs.DueLemmas.{stands}
use Rattle.job_file.proofs.TurnLemmas.{turned_is, turns_same, within_stepped, may_plan_arranged}
use Rattle.job_file.proofs.job_run.JobRun.turn.Goals as goal

pub plan_at-requires-clause-planned : goal.plan_at-requires-clause-planned
plan_at-requires-clause-planned c =
    let r = c.args.self.now in
    let a = c.arrange_next-next.new.self in
    subst (λ (p : PlanState). (p.faults ≡ []) ⊎ IsPlannedUpTo a.machine.point.number a.machine.plan) (sym c.arrange_next-next.ensures.faults)
    (may_plan_arranged r.faults.faults (standing r) (standing a) c.arrange_next-next.ensures.arranged c.requires.planned)

pub goes_on-requires-clause-next : goal.goes_on-requires-clause-next
goes_on-requires-clause-next c = c.arrange_next-next.ensures.next ∙ sym c.in_ok-plan_at.ensures.next

pub goes_on-requires-clause-few : goal.goes_on-requires-clause-few
goes_on-requires-clause-few c =
    let a = c.arrange_next-next.new.self in
    few_faulted a.faults.faults a.machine c.plan_at.new.self.machine c.arrange_next-next.result c.in_ok-plan_at.ensures.faulted c.arrange_next-next.ensures.few

pub returns-clause-turned : goal.returns-clause-turned
returns-clause-turned c =
    let r = c.args.self.now in
    let a = c.arrange_next-next.new.self in
    let n = c.goes_on.new.self.machine in
    let faulting = c.in_ok-plan_at.ensures.faulted ∙ ap (λ (p : PlanState). faulted p.faults a.machine) c.arrange_next-next.ensures.faults in
    let left = c.goes_on.ensures.whens ∙ ap (λ (v : Waits Due). v.left) c.in_ok-plan_at.ensures.whens in
    let whens = ap (λ (ls : List (Awaited Due)). stands (map when_of ls) n) left in
    turned_is r.faults.faults (standing r) (standing a) (standing c.goes_on.new.self) c.plan_at.new.self.machine n c.arrange_next-next.ensures.arranged faulting c.goes_on.ensures.stepped whens

pub returns-clause-within : goal.returns-clause-within
returns-clause-within c addresses most within =
    let a = c.arrange_next-next.new.self in
    let left = ap (map when_of) (c.goes_on.ensures.whens ∙ ap (λ (v : Waits Due). v.left) c.in_ok-plan_at.ensures.whens) in
    within_stepped addresses most a.faults.faults (standing a) (standing c.goes_on.new.self) left
    (c.goes_on.ensures.stepped ∙ ap stepped c.in_ok-plan_at.ensures.faulted) (c.arrange_next-next.ensures.within addresses most within)

pub returns-clause-less : goal.returns-clause-less
returns-clause-less c goes =
    let r = c.args.self.now in
    let a = c.arrange_next-next.new.self in
    let is : c.goes_on.result ≡ true = cc in
    let same = ap turns_left c.in_ok-plan_at.ensures.faulted
    ∙ ap (λ (s : Standing). turns_left (faulted a.faults.faults s.machine)) c.arrange_next-next.ensures.arranged
    ∙ turns_same a.faults.faults (standing r) in
    subst (λ n. turns_left c.goes_on.new.self.machine < n) same (c.goes_on.ensures.less is)
