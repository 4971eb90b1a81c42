-- Why no session was opened, of the jobs as they were given or under the faults that are found again.
use Rattle.std.proofs.Common.{◌≡◌, ℕ, List, inr, sym, subst}
use Rattle.std.specs.Prelude.{Bool, true, false, Result, Ok, Err, IfOk}
use Rattle.job_file.specs.Jobs.{JobState}
use Rattle.ch11_reader.specs.Indexed.{found_in}
use Rattle.bench_report.specs.Reports.{ChannelPart}
use Rattle.replay.specs.Accord.{Agrees}
use Rattle.replay.specs.Differences.{DifferenceExcludesAccord}
use Rattle.replay.specs.Moves.{DebuggerState}
use Rattle.bench_step.specs.Shown.{jobs_under, any_timed, IsShown}
use Rattle.bench_step.specs.Answering.{IsOpeningRefusal, IsRefusal}
use Rattle.bench_step.specs.declared.fault.StepFault.{StepFault}
use Rattle.bench_step.specs.declared.fault.StepFault.TheVariants as fault
use Rattle.bench_step.proofs.OwnFaults.{own_faults}

-- where the jobs as they were given do not agree
pub refused_under : (jobs under : List JobState) (parts : List ChannelPart) (recording : List ℕ) (f : StepFault) → under ≡ jobs_under jobs parts
    → ¬ Agrees jobs parts (found_in recording) → IsOpeningRefusal under parts recording f → IsRefusal jobs parts recording f
refused_under jobs under parts recording (fault.Refused r) is differ refused = refused
refused_under jobs under parts recording (fault.Mismatch channel number) is differ refused =
    (differ, subst (λ (js : List JobState). IsOpeningRefusal js parts recording (fault.Mismatch channel number)) is refused)
refused_under jobs under parts recording fault.Memory is differ refused = refused
refused_under jobs under parts recording fault.LineMemory is differ refused = refused
refused_under jobs under parts recording fault.Input is differ refused = refused
refused_under jobs under parts recording fault.Output is differ refused = refused

-- where no line plans a fault by time or by command
pub refused_as_given : (jobs : List JobState) (parts : List ChannelPart) (recording : List ℕ) (f : StepFault) → DifferenceExcludesAccord → any_timed jobs ≡ false
    → IsOpeningRefusal jobs parts recording f → IsRefusal jobs parts recording f
refused_as_given jobs parts recording (fault.Refused r) excludes none refused = refused
refused_as_given jobs parts recording (fault.Mismatch channel number) excludes none refused = (
  excludes jobs parts (found_in recording) channel number refused.1,
  subst (λ (js : List JobState). IsOpeningRefusal js parts recording (fault.Mismatch channel number)) (sym (own_faults jobs parts none)) refused,
)
refused_as_given jobs parts recording fault.Memory excludes none refused = refused
refused_as_given jobs parts recording fault.LineMemory excludes none refused = refused
refused_as_given jobs parts recording fault.Input excludes none refused = refused
refused_as_given jobs parts recording fault.Output excludes none refused = refused

abbrev pub is_mismatch : StepFault → Bool
is_mismatch (fault.Mismatch channel number) = true
is_mismatch _ = false

-- where they do not differ
pub refused_otherwise : (jobs : List JobState) (parts : List ChannelPart) (recording : List ℕ) (f : StepFault) → is_mismatch f ≡ false
    → IsOpeningRefusal jobs parts recording f → IsRefusal jobs parts recording f
refused_otherwise jobs parts recording (fault.Refused r) other refused = refused
refused_otherwise jobs parts recording (fault.Mismatch channel number) other refused = absurd cc
refused_otherwise jobs parts recording fault.Memory other refused = refused
refused_otherwise jobs parts recording fault.LineMemory other refused = refused
refused_otherwise jobs parts recording fault.Input other refused = refused
refused_otherwise jobs parts recording fault.Output other refused = refused

-- where they differ, they do not agree
pub differ_at : (given jobs : List JobState) (parts : List ChannelPart) (recording : List ℕ) (f : StepFault) → given ≡ jobs → DifferenceExcludesAccord → is_mismatch f ≡ true
    → IsOpeningRefusal given parts recording f → ¬ Agrees jobs parts (found_in recording)
differ_at given jobs parts recording (fault.Refused r) same excludes this refused = absurd cc
differ_at given jobs parts recording (fault.Mismatch channel number) same excludes this refused =
    excludes jobs parts (found_in recording) channel number
    (subst (λ (js : List JobState). IsOpeningRefusal js parts recording (fault.Mismatch channel number)) same refused).1
differ_at given jobs parts recording fault.Memory same excludes this refused = absurd cc
differ_at given jobs parts recording fault.LineMemory same excludes this refused = absurd cc
differ_at given jobs parts recording fault.Input same excludes this refused = absurd cc
differ_at given jobs parts recording fault.Output same excludes this refused = absurd cc

-- then those under the faults that are found again are shown
pub shown_again : (jobs : List JobState) (parts : List ChannelPart) (recording : List ℕ) (r : Result DebuggerState StepFault) → ¬ Agrees jobs parts (found_in recording)
    → IfOk r (λ (d : DebuggerState). d.state.jobs ≡ jobs_under jobs parts) → IfOk r (λ (d : DebuggerState). IsShown jobs parts recording d.state.jobs)
shown_again jobs parts recording (Ok d) differ is = inr (differ, is)
shown_again jobs parts recording (Err f) differ is = tt
