use Rattle.std.proofs.Common.{arith, refl, sym, ap, ◌∙◌, ◌≡◌, ◌<◌, ◌++◌, ◌∷◌, [], length, take}
use Rattle.std.specs.Prelude.{Some, slice_get}
use Rattle.std.proofs.lemmas.List.{map-append, take_all}
use Rattle.std.proofs.lemmas.Option.{slice_get_read}
use Rattle.job_file.specs.Jobs.{JobState}
use Rattle.bench_settings.specs.Lawful.{channels_of}
use Rattle.bench_run.proofs.Offering.{take_more}
use Rattle.bench_run.proofs.ready.channels.Goals as goal

pub loop-job-preserved : goal.loop-job-preserved
loop-job-preserved c =
    let was = c.loop-job.invariant in
    let jobs = c.args.jobs.now in
    let n = c.loop-job.job-index in
    let job = c.job-item.result in
    let lt : n < length jobs = c.loop-job-test.true in
    let at : slice_get jobs n ≡ Some job = slice_get_read jobs (length jobs) n job refl lt c.job-item.is in
    let pushed = c.push_reserved.ensures in
    record {
      len = omega (arith, pushed.len, was.len);
      capacity = omega (arith, pushed.capacity, was.capacity);
      items = pushed.items ∙ ap (λ l. l ++ c.channel.result ∷ []) was.items ∙ ap (λ m. channels_of (take n jobs) ++ m ∷ []) c.channel.ensures.value
          ∙ sym (map-append (λ (j : JobState). j.channel) (take n jobs) (job ∷ [])) ∙ ap channels_of (sym (take_more n jobs job at));
    }

pub returns : goal.returns
returns c = c.loop-job.invariant.items ∙ ap channels_of (take_all c.loop-job.job-index c.args.jobs.now c.loop-job-test.false)
