-- What became of one message of a job.
use Rattle.std.proofs.Common.{◌≡◌, ◌≢◌, ℕ, ◌+◌, Bool, true, false, eqb, List, [], ◌∷◌, Some, None, refl, sym, ap, ◌∙◌}
use Rattle.std.specs.List.{slice_get, list_any}
use Rattle.ch11_f1.specs.declared.Record.{Record}
use Rattle.bc_machine.specs.Running.{MachineState}
use Rattle.job_file.specs.Jobs.{JobState, job_in}
use Rattle.job_file.specs.Machines.{IsOf, IsLatestOutcome}
use Rattle.ch11_f1.specs.BodyReading.{Message}
use Rattle.ch11_f1.specs.Again.{as_message}
use Rattle.bench_report.specs.Reports.{ChannelPart}
use Rattle.replay.specs.Accord.{played}
use Rattle.replay.specs.Playing.{is_listed, IsNextRecorded, IsNextRefused, IsNextMissing}

module _ (job : JobState) (part : ChannelPart) (n : ℕ) (r : Record) (comes : slice_get (played job part) n ≡ Some r)
    (number : ℕ) (refused : Bool) (lists : refused ≡ list_any (λ (k : ℕ). eqb k number) part.refused) (next : number ≡ n + 1) where
  listed : is_listed part (n + 1) ≡ refused
  listed = ap (λ (k : ℕ). list_any (λ (i : ℕ). eqb i k) part.refused) (sym next) ∙ sym lists

  pub passed : (m : MachineState) (hs : List Message) → IsOf (job_in job) part.placed m → m.point.number ≡ n + 1 → IsLatestOutcome m → refused ≡ true → IsNextRefused job part n m hs hs
  passed m hs of number_is told e = record {
    message = r;
    comes = comes;
    there = record { of_job = of; number_is = number_is; told = told };
    listed = listed ∙ e;
    heard_is = refl;
  }

  pub kept : (m : MachineState) (hs rest : List Message) (seen : Message) → IsOf (job_in job) part.placed m → m.point.number ≡ n + 1 → IsLatestOutcome m → refused ≡ false
      → hs ≡ seen ∷ rest → seen ≡ as_message r → IsNextRecorded job part n m hs rest
  kept m hs rest seen of number_is told e heard is = record {
    message = r;
    comes = comes;
    there = record { of_job = of; number_is = number_is; told = told };
    listed = listed ∙ e;
    heard_is = heard ∙ ap (λ (x : Message). x ∷ rest) is;
  }

  pub another : (hs rest : List Message) (seen : Message) → refused ≡ false → hs ≡ seen ∷ rest → seen ≢ as_message r → IsNextMissing job part n hs
  another hs rest seen e heard differ = record {
    message = r;
    comes = comes;
    listed = listed ∙ e;
    other = λ at. differ (let here : slice_get (seen ∷ rest) 0 ≡ Some (as_message r) = ap (λ (ms : List Message). slice_get ms 0) (sym heard) ∙ at in cc);
  }

  pub missing : (hs : List Message) → refused ≡ false → hs ≡ [] → IsNextMissing job part n hs
  missing hs e heard = record {
    message = r;
    comes = comes;
    listed = listed ∙ e;
    other = λ at. absurd (let none : None ≡ Some (as_message r) = ap (λ (ms : List Message). slice_get ms 0) (sym heard) ∙ at in cc);
  }
