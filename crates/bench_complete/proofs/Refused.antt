-- What judging comes to where the packets of a file are judged.
use Rattle.std.proofs.Common.{◌≡◌, inr, Bool, true, false, cond, List, Option, None, Some, option_map, MatchResult, ℕ, Result, Ok, Err, refl, sym, ap, ◌∙◌}
use Rattle.std.specs.Result.{OnOk, IfErr}
use Rattle.ch11_reader.specs.declared.error.Refusal.{Refusal}
use Rattle.ch11_reader.specs.Recording.{Found, found_or_none}
use Rattle.bench_complete.specs.declared.additions.Additions.{Additions}
use Rattle.bench_complete.specs.declared.fault.CompleteFault.{CompleteFault}
use Rattle.bench_complete.specs.declared.fault.CompleteFault.TheVariants as faults
use Rattle.bench_complete.specs.Complete.{Completes, Plan, plan_for}
use Rattle.bench_complete.specs.Judging.{Fails, IsCompleted, Plans, RefusesCompletion, StopsWriting, is_setup, judged_additions, judged_recording, misuse, misuse_of, unless_misused}

no_device : (setup time taken long : Bool) → misuse_of setup time taken long ≡ Some faults.Device → ⊥
no_device true time taken long is = cc
no_device false true taken long is = cc
no_device false false true long is = cc
no_device false false false true is = cc
no_device false false false false is = cc

module _ (file : List ℕ) (ps : List Found) (read : Result (List Found) Refusal) (a : Additions) (text : is_setup (option_map (λ text. text.now) a.setup) ≡ true) (found : read ≡ Ok ps) where
  judged : (m : Option CompleteFault) → misuse file ps a ≡ m → judged_additions file read a ≡ unless_misused m ps
  judged m is = rw (text, found, is) refl

  pub refuses : (f : CompleteFault) → misuse file ps a ≡ Some f → RefusesCompletion file read a f
  refuses faults.SetupSize is = judged (Some faults.SetupSize) is
  refuses (faults.Refused r) is = judged (Some (faults.Refused r)) is
  refuses faults.SetupTwice is = judged (Some faults.SetupTwice) is
  refuses faults.TimeTwice is = judged (Some faults.TimeTwice) is
  refuses faults.ChannelTaken is = judged (Some faults.ChannelTaken) is
  refuses faults.TooLong is = judged (Some faults.TooLong) is
  refuses faults.Memory is = text
  refuses faults.Reader is = text
  refuses faults.Device is = no_device _ _ _ _ is

  pub plans : (r : Result (Option Plan) CompleteFault) → MatchResult r (λ c. (misuse file ps a ≡ None) × (c ≡ Some (plan_for file ps a))) (λ f. misuse file ps a ≡ Some f) → Plans file read a r
  plans (Ok c) m = (ps, judged None m.0, m.1)
  plans (Err f) m = refuses f m

-- ---- completing

read_by : (m : Option CompleteFault) (qs ps : List Found) → unless_misused m qs ≡ Ok ps → qs ≡ ps
read_by None qs ps is = cc
read_by (Some f) qs ps is = cc

setup_by : (setup : Bool) (r : Result (List Found) CompleteFault) (f : CompleteFault) (ps : List Found) → cond setup r (Err f) ≡ Ok ps → r ≡ Ok ps
setup_by true r f ps is = is
setup_by false r f ps is = cc

all_read : (file : List ℕ) (read : Result (List Found) Refusal) (a : Additions) (ps : List Found) → judged_recording file read a ≡ Ok ps → ps ≡ found_or_none read
all_read file (Err r) a ps is = cc
all_read file (Ok qs) a ps is = sym (read_by (misuse file qs a) qs ps is)

module _ (file : List ℕ) (read : Result (List Found) Refusal) (a : Additions) (view : Option Plan) (planned : Plans file read a (Ok view)) where
  pub completes : (got gets : Option (List ℕ)) (r : Result (Unit {0}) CompleteFault) → OnOk r ((plan : Plan) → view ≡ Some plan → Completes plan got gets) → OnOk r (IsCompleted file read a got gets)
  completes got gets (Ok u) all = (planned.0, planned.1, all (plan_for file planned.0 a) planned.2)
  completes got gets (Err f) all = all

  pub fails_if : (r : Result (Unit {0}) CompleteFault) → IfErr r StopsWriting → IfErr r (Fails file read a)
  fails_if (Ok u) stops = stops
  fails_if (Err f) stops =
      inr (planned.1 ∙ ap Ok (all_read file read a planned.0 (setup_by (is_setup (option_map (λ text. text.now) a.setup)) _ _ planned.0 planned.1)), stops)
