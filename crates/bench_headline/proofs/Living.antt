-- Jobs, report and recording of a finished live run agree.
use Rattle.std.proofs.Common.{◌≡◌, ℕ, zero, suc, Bool, true, false, cond, length, List, [], ◌∷◌, ◌++◌, map, append-nil, slice_get, Some, Ok, refl, sym, ap, ◌∙◌, subst, arith}
use Rattle.std.proofs.lemmas.List.{length-map}
use Rattle.std.specs.List.{AllByRecursion}
use Rattle.bc_machine.specs.declared.placed.Placed.{Placed}
use Rattle.bc_machine.specs.Running.{MachineState}
use Rattle.bc_machine.specs.declared.placed.HostAction.{HostAction}
use Rattle.bc_machine.specs.Planning.{next_number}
use Rattle.job_moments.specs.Planning.{PlannedFault}
use Rattle.job_moments.specs.declared.met.Met.{Met}
use Rattle.std.specs.Prelude.{Option, None}
use Rattle.mil_line.specs.declared.faults.Fault.{Fault}
use Rattle.job_file.specs.Jobs.{JobState, said_in}
use Rattle.job_file.specs.Beside.{GoesBeside, Begins, Turns, Takes, turned_beside, with_posted, with_posts, as_played, IsLiveIn}
use Rattle.job_file.specs.Timed.{Standing, arranged, begun_beside, faulted, faults_in, made_of, coming_met, found_in, says_nothing}
use Rattle.job_file.proofs.TurnLemmas.{same_stepped, same_arranged}
use Rattle.ch11_builder.specs.Laws.{PacketHasItsLength, HeaderIsReadAgain, MessagesAreReadAgain}
use Rattle.ch11_reader.specs.Recording.{Found, packets_in}
use Rattle.ch11_reader.specs.Joined.{RecordingsJoin}
use Rattle.ch11_recording.specs.Laws.{FileGoesOn}
use Rattle.bench_report.specs.Reports.{ChannelPart, RunReport}
use Rattle.bench_settings.specs.declared.settings.Settings.{Settings}
use Rattle.bench_settings.specs.Lawful.{AreLawful, channels_of}
use Rattle.bench_settings.proofs.Lists.{map_at, which}
use Rattle.bench_mail.specs.declared.mailbox.Inbox.{Inbox}
use Rattle.bench_run.specs.Runs.{IsRun}
use Rattle.bench_run.specs.Live.{LiveChannel, live_job, IsRunAs, AreLive}
use Rattle.bench_run.proofs.Lives.{lives_channels, lives_lawful}
use Rattle.bench_run.proofs.Rows.{same_some, all_at}
use Rattle.bench_headline.specs.Headline.{with_plan_of, under_faults, NoneIsTimed}
use Rattle.replay.specs.Accord.{Agrees, AgreesOn, AreOfChannels}
use Rattle.replay.specs.PlacedActions.{PlacedActionsSuffice}
use Rattle.bench_headline.proofs.Agreeing.{agrees}

-- ---- what a run leaves of a job

-- what is played of a job hangs on the actions of the report alone, not on the job's own
plays_in : (plain : Bool) (most : ℕ) (found : List Found) (job : JobState) (posts : List Placed) (live : JobState) (part : ChannelPart) → IsLiveIn plain most job posts live
    → AgreesOn found live part → AgreesOn found (with_plan_of live job) part
plays_in true most found job posts live part means is =
    let here : AgreesOn found (with_posts job posts) part = subst (λ (j : JobState). AgreesOn found j part) means is in
    subst (λ (j : JobState). AgreesOn found (with_plan_of j job) part) (sym means) (record { made = here.made; read = here.read })
plays_in false most found job posts live part means is =
    let here : AgreesOn found (as_played job means.last.machine) part = subst (λ (j : JobState). AgreesOn found j part) means.live_is is in
    subst (λ (j : JobState). AgreesOn found (with_plan_of j job) part) (sym means.live_is) (record { made = here.made; read = here.read })

-- ---- the faults of a job, where no line plans one by time or by command

none_found : (m : MachineState) (o : Option Met) → m.plan ++ map (λ (f : Fault). (next_number m, f)) (faults_in [] (made_of m) o) ≡ m.plan
none_found m None = append-nil m.plan
none_found m (Some next) = append-nil m.plan

plan_faulted : (m : MachineState) → (faulted [] m).plan ≡ m.plan
unfolding faulted
plan_faulted m = none_found m (coming_met m)

plan_turned : (posted : List HostAction) (s : Standing) → (turned_beside posted [] s).machine.plan ≡ s.machine.plan
unfolding turned_beside
plan_turned posted s =
    let m : MachineState = with_posted posted (arranged s).machine in
    (same_stepped (faulted [] m)).plan ∙ plan_faulted m ∙ (same_arranged s).plan

plan_stays : (first : Standing) (posts : List Placed) (s : Standing) → GoesBeside [] first posts s → s.machine.plan ≡ first.machine.plan
plan_stays first posts s Begins = refl
plan_stays first posts s (Turns before t goes) = plan_turned [] t ∙ plan_stays first before t goes
plan_stays first posts s (Takes before t posted goes still) = plan_turned posted t ∙ plan_stays first before t goes

own_plan : (plain : Bool) (most : ℕ) (job : JobState) (posts : List Placed) (live : JobState) → IsLiveIn plain most job posts live → job.timed.is_timed ≡ false → live.plan ≡ job.plan
own_plan true most job posts live means untimed = ap (λ (j : JobState). j.plan) means
own_plan false most job posts live means untimed =
    let none : found_in job.timed ≡ [] = ap (λ b. cond b job.timed.faults []) untimed in
    let first : Standing = begun_beside most (said_in job) job.timed in
    let goes = subst (λ (fs : List PlannedFault). GoesBeside fs first posts means.last) none means.goes in
    ap (λ (j : JobState). j.plan) means.live_is ∙ plan_stays first posts means.last goes ∙ ap (λ b. cond b [] job.plan) untimed

-- ---- lists of jobs

at_under : (lives jobs : List JobState) (k : ℕ) (shown : JobState) → slice_get (under_faults lives jobs) k ≡ Some shown
    → (live : JobState) × (job : JobState) × (slice_get lives k ≡ Some live) × (slice_get jobs k ≡ Some job) × (with_plan_of live job ≡ shown)
at_under [] jobs k shown at = absurd cc
at_under (live ∷ lives) [] k shown at = absurd cc
at_under (live ∷ lives) (job ∷ jobs) zero shown at = let is : with_plan_of live job ≡ shown = cc in (live, job, refl, refl, is)
at_under (live ∷ lives) (job ∷ jobs) (suc k) shown at = at_under lives jobs k shown at

channels_under : (lives jobs : List JobState) → length lives ≡ length jobs → channels_of (under_faults lives jobs) ≡ channels_of jobs
channels_under [] [] long = refl
channels_under [] (job ∷ jobs) long = absurd (omega (arith, long))
channels_under (live ∷ lives) [] long = absurd (omega (arith, long))
channels_under (live ∷ lives) (job ∷ jobs) long = ap (λ l. job.channel ∷ l) (channels_under lives jobs (omega (arith, long)))

same_jobs : (rows : List LiveChannel) (most : ℕ) → AllByRecursion (λ (c : LiveChannel). IsRunAs true most c.job c.posts c.live) rows
    → NoneIsTimed (map (λ (c : LiveChannel). c.job) rows) → under_faults (map live_job rows) (map (λ (c : LiveChannel). c.job) rows) ≡ map (λ (c : LiveChannel). c.job) rows
same_jobs [] most means none = refl
same_jobs (c ∷ rows) most means none =
    let plan : c.live.plan ≡ c.job.plan = own_plan (says_nothing c.job.timed) most c.job c.posts c.live means.0 none.0 in
    let rest = same_jobs rows most means.1 none.1 in
    λ i. record c.job { plan = plan i } ∷ rest i

module _ (size : PacketHasItsLength) (header : HeaderIsReadAgain) (messages : MessagesAreReadAgain) (join : RecordingsJoin) (goes_on : FileGoesOn) (suffice : PlacedActionsSuffice)
    (most : ℕ) (jobs : List JobState) (s : Settings) (before after : List Inbox) (report : RunReport) (lives : List JobState) (bytes : List ℕ) (found : List Found)
    (lawful : AreLawful jobs s) (live : AreLive most jobs before after report.channels lives) (run : IsRun most jobs lives s report bytes) (readable : packets_in bytes ≡ Ok found) where
  of_lives : Agrees lives report.channels found
  of_lives =
      agrees size header messages join goes_on suffice most jobs lives s report bytes found
      (lives_lawful true most jobs before after report.channels lives live s lawful) run readable

  long : length lives ≡ length jobs
  long = ap length (sym live.lives_are) ∙ length-map live.rows live_job ∙ sym (length-map live.rows (λ (c : LiveChannel). c.job)) ∙ ap length live.jobs_are

  of_job : (k : ℕ) (shown : JobState) (part : ChannelPart) → slice_get (under_faults lives jobs) k ≡ Some shown → slice_get report.channels k ≡ Some part → AgreesOn found shown part
  of_job k shown part at at' =
      let there = at_under lives jobs k shown at in
      let row = which (λ (c : LiveChannel). c.job) live.rows k there.1 (ap (λ (js : List JobState). slice_get js k) live.jobs_are ∙ there.3) in
      let at_live : slice_get lives k ≡ Some row.0.live = ap (λ (js : List JobState). slice_get js k) (sym live.lives_are) ∙ map_at live_job live.rows k row.0 row.1 in
      let live_is : row.0.live ≡ there.0 = same_some (sym at_live ∙ there.2) in
      let means = all_at (λ (c : LiveChannel). IsRunAs true most c.job c.posts c.live) live.rows k row.0 live.means row.1 in
      let one = plays_in (says_nothing row.0.job.timed) most found row.0.job row.0.posts row.0.live part means (of_lives.each k row.0.live part at_live at') in
      subst (λ (j : JobState). AgreesOn found j part) ((λ i. with_plan_of (live_is i) (sym row.2 i)) ∙ there.4) one

  pub agrees_live : Agrees (under_faults lives jobs) report.channels found
  agrees_live =
      let same : channels_of (under_faults lives jobs) ≡ channels_of lives = channels_under lives jobs long ∙ sym (lives_channels true most jobs before after report.channels lives live) in
      record {
        channels = of_lives.channels ∙ sym same;
        known = subst (λ (cs : List ℕ). AreOfChannels cs found) (sym same) of_lives.known;
        each = of_job;
      }

  pub agrees_with_own : NoneIsTimed jobs → Agrees jobs report.channels found
  agrees_with_own none =
      let rows : List LiveChannel = live.rows in
      let own : NoneIsTimed (map (λ (c : LiveChannel). c.job) rows) = subst NoneIsTimed (sym live.jobs_are) none in
      let same : under_faults lives jobs ≡ jobs = (λ i. under_faults (sym live.lives_are i) (sym live.jobs_are i)) ∙ same_jobs rows most live.means own ∙ live.jobs_are in
      subst (λ (js : List JobState). Agrees js report.channels found) same agrees_live
