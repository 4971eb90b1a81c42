use Rattle.std.proofs.Common.{arith, refl, sym, ◌∙◌, ◌≡◌, ◌<◌, true≢false, length, subst, ⊎_elim}
use Rattle.std.specs.Prelude.{Some, slice_get}
use Rattle.std.proofs.lemmas.Bool.{cases_lt}
use Rattle.std.proofs.lemmas.Option.{slice_get_read}
use Rattle.job_file.specs.Jobs.{JobState}
use Rattle.bench_mail.specs.declared.mailbox.Mailbox.{Mailbox}
use Rattle.bench_mail.specs.Mail.{IsMadeFor}
use Rattle.bench_run.proofs.Rows.{pair_at, pairs_of, same_some, place_below}
use Rattle.bench_run.proofs.running.are_for.Goals as goal

pub returns-then-not-is_for : goal.returns-then-not-is_for
returns-then-not-is_for c =
    let boxes = c.args.boxes.now in
    let jobs = c.args.jobs.now in
    let n = c.loop-place.place in
    let lt : n < length jobs = omega (arith, c.loop-place-test.true, c.loop-place.auto.place-end) in
    let at_box : slice_get boxes n ≡ Some c.index-boxes-place.result = slice_get_read boxes (length boxes) n c.index-boxes-place.result refl (omega (arith, lt, c.requires)) c.index-boxes-place.is in
    let at_job : slice_get jobs n ≡ Some c.index-jobs-place.result = slice_get_read jobs (length jobs) n c.index-jobs-place.result refl lt c.index-jobs-place.is in (
      λ wrong. absurd (true≢false (sym wrong)),
      λ are. absurd (true≢false (sym (c.is_for.ensures.1 (pair_at IsMadeFor boxes jobs are n c.index-boxes-place.result c.index-jobs-place.result at_box at_job)) ∙ c.if-not-is_for.true)),
    )

pub loop-place-preserved : goal.loop-place-preserved
loop-place-preserved c =
    let boxes = c.args.boxes.now in
    let jobs = c.args.jobs.now in
    let n = c.loop-place.place in
    let lt : n < length jobs = omega (arith, c.loop-place-test.true, c.loop-place.auto.place-end) in
    let at_box : slice_get boxes n ≡ Some c.index-boxes-place.result = slice_get_read boxes (length boxes) n c.index-boxes-place.result refl (omega (arith, lt, c.requires)) c.index-boxes-place.is in
    let at_job : slice_get jobs n ≡ Some c.index-jobs-place.result = slice_get_read jobs (length jobs) n c.index-jobs-place.result refl lt c.index-jobs-place.is in
    λ k box job low at at'. ⊎_elim (λ (less : k < n). c.loop-place.invariant k box job less at at')
    (λ high.
    let is : k ≡ n = omega (arith, low, high) in
    let box_is : c.index-boxes-place.result ≡ box = same_some (sym at_box ∙ subst (λ m. slice_get boxes m ≡ Some box) is at) in
    let job_is : c.index-jobs-place.result ≡ job = same_some (sym at_job ∙ subst (λ m. slice_get jobs m ≡ Some job) is at') in
    subst (λ (z : Mailbox × JobState). IsMadeFor z.0 z.1) (λ i. (box_is i, job_is i)) (c.is_for.ensures.0 c.if-not-is_for.false))
    (cases_lt k n)

pub returns : goal.returns
returns c =
    let boxes = c.args.boxes.now in
    let jobs = c.args.jobs.now in (
      λ yes. pairs_of IsMadeFor boxes jobs (sym c.requires) (λ k box job at at'.
          c.loop-place.invariant k box job (let low = place_below jobs k job at' in omega (arith, low, c.loop-place-test.false, c.loop-place.auto.place-end)) at at'),
      λ are. refl,
    )
