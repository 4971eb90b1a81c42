-- Jobs under the faults that are due where actions were placed.
use Rattle.std.proofs.Common.{◌≡◌, ℕ, List, [], ◌∷◌, ◌++◌, cond, refl, sym, ap, ◌∙◌, append-nil, length, arith, ◌+◌, ⊎_elim}
use Rattle.std.specs.Prelude.{Bool, true, false, ◌||◌}
use Rattle.job_file.specs.Jobs.{JobState, job_in}
use Rattle.job_file.specs.Timed.{run_out, plan_under}
use Rattle.bench_report.specs.Reports.{ChannelPart}
use Rattle.bench_step.specs.Shown.{jobs_under, any_timed, OwnFaultsAreShown}

neither : (a b : Bool) → (a || b) ≡ false → (a ≡ false) × (b ≡ false)
neither true b none = absurd cc
neither false b none = (refl, none)

own_plan : (job : JobState) (part : ChannelPart) → job.timed.is_timed ≡ false → plan_under (job_in job) job.timed part.placed ≡ job.plan
own_plan job part untimed =
    ap (λ b. cond b (run_out (record (job_in job) { actions = part.placed }) (record job.timed { whens = [] })).plan job.plan) untimed

-- where no line plans one by time or by command, they are the jobs' own
pub own_faults : (jobs : List JobState) (parts : List ChannelPart) → any_timed jobs ≡ false → jobs_under jobs parts ≡ jobs
own_faults jobs [] none = refl
own_faults [] (part ∷ parts) none = refl
own_faults (job ∷ jobs) (part ∷ parts) none =
    let both = neither job.timed.is_timed (any_timed jobs) none in
    let plan = own_plan job part both.0 in
    let rest = own_faults jobs parts both.1 in
    λ i. record job { plan = plan i } ∷ rest i

pub own_faults_shown : OwnFaultsAreShown
own_faults_shown jobs shown parts recording none is = ⊎_elim (λ same. same) (λ other. other.1 ∙ own_faults jobs parts none) is

-- of no job there is none
pub none_under : (parts : List ChannelPart) → jobs_under [] parts ≡ []
none_under [] = refl
none_under (part ∷ parts) = refl

-- where no job is left, they are all there
pub none_left : (done rest all : List JobState) (parts : List ChannelPart) → rest ≡ [] → done ++ jobs_under rest parts ≡ all → done ≡ all
none_left done rest all parts none is =
    sym (append-nil done) ∙ ap (λ (l : List JobState). done ++ l) (sym (none_under parts) ∙ ap (λ (l : List JobState). jobs_under l parts) (sym none)) ∙ is

-- ---- lists

pub empty_list : {X : Type 0} (l : List X) → length l ≡ 0 → l ≡ []
empty_list [] none = refl
empty_list (x ∷ l) none = absurd (omega arith)

pub one_fewer : {X : Type 0} (old new : List X) (x : X) (n m : ℕ) → old ≡ x ∷ new → m + 1 ≡ n → n ≡ length old → m ≡ length new
one_fewer old new x n m is less all = let long = ap length is in omega (arith, less, all, long)
