use Rattle.std.proofs.Common.{arith, refl, sym, ap, ◌∙◌, ◌≡◌, ◌<◌, ◌≤◌, ◌+◌, ◌++◌, ◌∷◌, [], length, map, take}
use Rattle.std.specs.Prelude.{Some, slice_get}
use Rattle.std.proofs.lemmas.List.{map-append, take_all}
use Rattle.std.proofs.lemmas.Option.{slice_get_read}
use Rattle.job_file.specs.Rooms.{most_items}
use Rattle.bench_run.proofs.Offering.{take_more, all_more}
use Rattle.bench_run.proofs.threads.bounds.Goals as goal

pub loop-job-preserved : goal.loop-job-preserved
loop-job-preserved c =
    let was = c.loop-job.invariant in
    let jobs = c.args.jobs.now in
    let n = c.loop-job.job-index in
    let job = c.job-item.result in
    let lt : n < length jobs = c.loop-job-test.true in
    let at : slice_get jobs n ≡ Some job = slice_get_read jobs (length jobs) n job refl lt c.job-item.is in
    let more : c.most_items.result ≡ most_items c.args.posts job = c.most_items.ensures.value in
    let pushed = c.push_reserved.ensures in
    record {
      len = omega (arith, pushed.len, was.len);
      capacity = omega (arith, pushed.capacity, was.capacity);
      low = rw pushed.items (all_more (λ b. b ≤ 1000001 + c.args.posts) c.loop-job.bounds.items c.most_items.result was.low c.most_items.ensures.high);
      items = pushed.items ∙ ap (λ l. l ++ c.most_items.result ∷ []) was.items ∙ ap (λ m. map (most_items c.args.posts) (take n jobs) ++ m ∷ []) more
          ∙ sym (map-append (most_items c.args.posts) (take n jobs) (job ∷ [])) ∙ ap (map (most_items c.args.posts)) (sym (take_more n jobs job at));
    }

pub returns-clause-low : goal.returns-clause-low
returns-clause-low c = c.loop-job.invariant.low

pub returns-clause-bounds : goal.returns-clause-bounds
returns-clause-bounds c = c.loop-job.invariant.items ∙ ap (map (most_items c.args.posts)) (take_all c.loop-job.job-index c.args.jobs.now c.loop-job-test.false)
