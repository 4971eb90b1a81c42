-- The run of a job with lines by time and by command, to its end.
use Rattle.std.proofs.Common.{◌≡◌, ℕ, zero, suc, ◌+◌, ◌-◌, ◌≤◌, List, sym, ap, subst, ◌∙◌, zero-add, arith}
use Rattle.std.specs.Prelude.{Option, None}
use Rattle.std.specs.Option.{option_map}
use Rattle.mil_bus.specs.declared.talks.Talk.{Talk}
use Rattle.bc_machine.specs.NextMessage.{coming_talk, talk_behind, talk_of_operation}
use Rattle.bc_machine.specs.Running.{MachineState, HasEnded, stepped, stepped_with, moved_by}
use Rattle.job_moments.specs.Planning.{PlannedFault}
use Rattle.job_file.specs.ChannelJobs.{ChannelJob}
use Rattle.job_file.specs.Resolving.{IsAtEnd}
use Rattle.job_file.specs.Timed.{Standing, met_of, coming_met, arranged, faulted, turned, turned_times, found_in, at_beginning, most_turns, run_out}
use Rattle.job_file.specs.TimedLines.{Timed}
use Rattle.job_file.proofs.Fewness.{halt_there}
use Rattle.job_file.proofs.DueLemmas.{none_comes, all_done, stands}
use Rattle.job_file.proofs.FaultLemmas.{faulted_none}

-- ---- at its end it stands still

pub none_sent : (m : MachineState) → HasEnded m → coming_talk m ≡ None
unfolding coming_talk
none_sent m e = ap (talk_behind m) e.none ∙ ap (talk_of_operation m) (halt_there m e)

still : (m : MachineState) → HasEnded m → stepped m ≡ m
unfolding stepped
still m e = ap (λ o. stepped_with o m) e.none ∙ ap (λ t. moved_by t m) e.halts

-- no message comes next there
pub none_met : (m : MachineState) → HasEnded m → coming_met m ≡ None
none_met m e = ap (λ (o : Option Talk). option_map (met_of m.begun.start) o) (none_sent m e)

arranged_same : (s : Standing) → coming_met s.machine ≡ None → arranged s ≡ s
arranged_same s none = all_done s 0 (omega arith) (none_comes s none)

turn_stays : (faults : List PlannedFault) (s : Standing) → HasEnded s.machine → turned faults s ≡ s
unfolding turned
turn_stays faults s e =
    let none : coming_met s.machine ≡ None = ap (λ (o : Option Talk). option_map (met_of s.machine.begun.start) o) (none_sent s.machine e) in
    ap (λ (v : Standing). stands v.left (stepped (faulted faults v.machine))) (arranged_same s none)
    ∙ ap (λ (m : MachineState). stands s.left (stepped m)) (sym (faulted_none faults s.machine none))
    ∙ ap (λ (m : MachineState). stands s.left m) (still s.machine e)

stays : (faults : List PlannedFault) (s : Standing) (n k : ℕ) → HasEnded (turned_times n faults s).machine → turned_times (k + n) faults s ≡ turned_times n faults s
stays faults s n zero e = ap (λ m. turned_times m faults s) (zero-add n)
stays faults s n (suc k) e =
    let on : suc k + n ≡ suc (k + n) = omega arith in
    let same : turned_times (k + n) faults s ≡ turned_times n faults s = stays faults s n k e in
    ap (λ m. turned_times m faults s) on ∙ ap (turned faults) same ∙ turn_stays faults (turned_times n faults s) e

pub one_turn_more : (faults : List PlannedFault) (s a b : Standing) (n : ℕ) → a ≡ turned_times n faults s → b ≡ turned faults a → b ≡ turned_times (n + 1) faults s
one_turn_more faults s a b n is more =
    let on : n + 1 ≡ suc n = omega arith in
    more ∙ ap (turned faults) is ∙ ap (λ m. turned_times m faults s) (sym on)

-- ---- the run that a job means

pub run_out_is : (base : ChannelJob) (timed : Timed) (s : Standing) → IsAtEnd (found_in timed) (at_beginning base timed) s → run_out base timed ≡ s.machine
unfolding run_out
run_out_is base timed s end =
    let from = at_beginning base timed in
    let faults = found_in timed in
    let few : end.turns ≤ most_turns base = omega (arith, end.few) in
    let more : most_turns base ≡ (most_turns base - end.turns) + end.turns = omega (arith, few) in
    let ended : HasEnded (turned_times end.turns faults from).machine = subst (λ (v : Standing). HasEnded v.machine) end.is end.ended in
    ap (λ n. (turned_times n faults from).machine) more
    ∙ ap (λ (v : Standing). v.machine) (stays faults from end.turns (most_turns base - end.turns) ended ∙ sym end.is)
