use Rattle.std.proofs.Common.{◌≡◌, true, false, IsTrue, List, ◌∷◌, sym, subst, rules}
use Rattle.ch11_recording.specs.Recording.{AreDistinct}
use Rattle.job_file.specs.Jobs.{JobState}
use Rattle.bench_settings.specs.Lawful.{channels_of}
use Rattle.bench_settings.proofs.Judged.{distinct_more, distinct_less, not_distinct}
use Rattle.bench_settings.proofs.judging.all_differ.Goals as goal

not_true : {X : Type 0} → IsTrue false → X
not_true h = absurd (let impossible : false ≡ true = search rules in cc)

pub returns-then-has : goal.returns-then-has
returns-then-has c =
    let split : c.loop-job.rest.now ≡ c.in-Some.job.now ∷ c.in-Some.behind.now = search rules in
    let rest = subst (λ (jobs : List JobState). AreDistinct (channels_of jobs)) split in (
      λ h. not_true h,
      λ distinct. absurd (not_distinct c.in-Some.job.now c.in-Some.behind.now (search rules) (rest (c.loop-job.invariant.1 distinct))),
    )

pub loop-job-preserved : goal.loop-job-preserved
loop-job-preserved c =
    let split : c.loop-job.rest.now ≡ c.in-Some.job.now ∷ c.in-Some.behind.now = search rules in
    let Differ : List JobState → Type 0 = λ jobs. AreDistinct (channels_of jobs) in (
      λ distinct. c.loop-job.invariant.0 (subst Differ (sym split) (distinct_more c.in-Some.job.now c.in-Some.behind.now (search rules) distinct)),
      λ distinct. distinct_less c.in-Some.job.now c.in-Some.behind.now (subst Differ split (c.loop-job.invariant.1 distinct)),
    )
