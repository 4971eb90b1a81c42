-- What `bench judge` makes of a request (own choice): its rules, which fault comes first, its exit status, and when its
-- JUnit file is written.
use Rattle.std.specs.Prelude.{ℕ, ◌==◌, ◌||◌, if◌then◌else◌, List, Option, None, Some, Result, Ok, Err, Bool, codes}
use Rattle.text_lines.specs.Words.{Text}
use Rattle.bench_judge.specs.Verdicts.{not_held}
use Rattle.bench_judge.specs.declared.verdicts.RuleVerdict.{RuleVerdict}
use Rattle.bench_requests.specs.declared.fault.CommandFault.{CommandFault}
use Rattle.bench_requests.specs.Status.{status_of}

-- the text of the rules: the one that is given, or one that asks that each message is clean
abbrev pub text_of_rules : Option Text → Text
text_of_rules None = codes "expect any clean"
text_of_rules (Some text) = text

-- the fault of a recording comes before that of its rules
abbrev pub recording_first : {R S : Type 0} → Result R CommandFault → Result S CommandFault
    → Result (R × S) CommandFault
recording_first (Err fault) rules = Err fault
recording_first (Ok recording) (Err fault) = Err fault
recording_first (Ok recording) (Ok rules) = Ok (recording, rules)

-- the exit status once the verdicts were printed: 5 where a rule is not held
abbrev pub status_on : List RuleVerdict → ℕ
status_on verdicts = if not_held verdicts == 0 then 0 else 5

-- the exit status of a command that is done, or ends with a fault
abbrev pub status_in : {X : Type 0} → Result X CommandFault → ℕ
status_in (Ok done) = 0
status_in (Err fault) = status_of fault

-- the exit status of a recording of which the verdicts were printed, or were not
abbrev pub status_of_judging : {V : Type 0} → (V → List RuleVerdict) → Result V CommandFault → ℕ
status_of_judging listed (Ok verdicts) = status_on (listed verdicts)
status_of_judging listed (Err fault) = status_of fault

-- the JUnit file is written with these
abbrev pub writes_junit : ℕ → Bool
writes_junit status = status == 0 || status == 5
