-- What the other channels may send, and the entries of one index.
use Rattle.std.proofs.Common.{◌≡◌, ◌≢◌, ℕ, zero, suc, ◌+◌, List, [], ◌∷◌, map, refl, sym, ap, ◌∙◌, subst, arith}
use Rattle.std.specs.Prelude.{Some, slice_get}
use Rattle.std.specs.List.{AllByRecursion}
use Rattle.std.proofs.lemmas.Bool.{eq-eqb, ne_eqb}
use Rattle.std.proofs.lemmas.List.Sums.{sum_by-cons}
use Rattle.mil_trunk.specs.Tags.{bound_of, bounds_outside}
use Rattle.mil_trunk.specs.Views.{with_tag}
use Rattle.mil_trunk.proofs.Bounds.{bounds_outside-one}
use Rattle.job_file.specs.Jobs.{JobState}
use Rattle.ch11_builder.specs.Packet.{Numbered}
use Rattle.ch11_recording.specs.Recording.{AreDistinct}
use Rattle.bench_settings.specs.Lawful.{channels_of}
use Rattle.bench_run.specs.declared.entry.Entry.{Entry}
use Rattle.bench_run.specs.Entries.{index_of, entry_of, entries_to_the_end}
use Rattle.bench_run.specs.Runs.{most_in_all, others_than}
use Rattle.job_file.specs.Rooms.{most_items}
use Rattle.bench_run.specs.Threads.{HasOnly}

-- ---- bounds

one_more : (most : ℕ) (j : JobState) (jobs : List JobState) → most_in_all most (j ∷ jobs) ≡ most_items most j + most_in_all most jobs
one_more most j jobs = sum_by-cons (λ n. n) (most_items most j) (map (most_items most) jobs)

pub bound_at : (most : ℕ) (jobs : List JobState) (k : ℕ) (job : JobState) → slice_get jobs k ≡ Some job → bound_of (map (most_items most) jobs) k ≡ most_items most job
bound_at most [] k job at = absurd cc
bound_at most (j ∷ jobs) zero job at = let is : j ≡ job = cc in ap (most_items most) is
bound_at most (j ∷ jobs) (suc k) job at = bound_at most jobs k job at

apart_at : (channel : ℕ) (jobs : List JobState) (k : ℕ) (job : JobState) → AllByRecursion (λ other. other ≢ channel) (channels_of jobs) → slice_get jobs k ≡ Some job → job.channel ≢ channel
apart_at channel [] k job apart at = absurd cc
apart_at channel (j ∷ jobs) zero job apart at = let is : j ≡ job = cc in subst (λ (x : JobState). x.channel ≢ channel) is apart.0
apart_at channel (j ∷ jobs) (suc k) job apart at = apart_at channel jobs k job apart.1 at

-- none of the jobs is of the channel
no_other : (channel : ℕ) (jobs : List JobState) → AllByRecursion (λ other. other ≢ channel) (channels_of jobs) → others_than channel jobs ≡ jobs
no_other channel [] apart = refl
no_other channel (j ∷ jobs) apart = rw (ne_eqb j.channel channel apart.0) (ap (λ (l : List JobState). j ∷ l) (no_other channel jobs apart.1))

pub own_and_others : (most : ℕ) (jobs : List JobState) (k : ℕ) (job : JobState) → AreDistinct (channels_of jobs) → slice_get jobs k ≡ Some job
    → most_in_all most jobs ≡ most_items most job + most_in_all most (others_than job.channel jobs)
own_and_others most [] k job distinct at = absurd cc
own_and_others most (j ∷ jobs) zero job distinct at =
    let is : j ≡ job = cc in
    one_more most j jobs ∙ subst (λ (x : JobState). most_items most j + most_in_all most jobs ≡ most_items most x + most_in_all most (others_than x.channel (j ∷ jobs))) is
    (rw (eq-eqb j.channel j.channel refl, no_other j.channel jobs distinct.0) refl)
own_and_others most (j ∷ jobs) (suc k) job distinct at =
    let rest = own_and_others most jobs k job distinct.1 at in
    let ne : j.channel ≢ job.channel = λ e. apart_at j.channel jobs k job distinct.0 at (sym e) in
    rw (ne_eqb j.channel job.channel ne) (omega (arith, rest, one_more most j jobs, one_more most j (others_than job.channel jobs)))

-- for the ticket of one tag the bounds of the others are those of the other channels
pub others_bounds : (most : ℕ) (jobs : List JobState) (k tags : ℕ) (job : JobState) → AreDistinct (channels_of jobs) → slice_get jobs k ≡ Some job → HasOnly k tags
    → bounds_outside tags (map (most_items most) jobs) ≡ most_in_all most (others_than job.channel jobs)
others_bounds most jobs k tags job distinct at only =
    let all = bounds_outside-one k tags (map (most_items most) jobs) only.0 only.1 in
    let mine = own_and_others most jobs k job distinct at in
    omega (arith, all, mine, bound_at most jobs k job at)

-- ---- entries of one index

pub own_entries : (k : ℕ) (ns : List Numbered) → with_tag index_of k (entries_to_the_end k ns) ≡ entries_to_the_end k ns
own_entries k [] = rw (eq-eqb k k refl) refl
own_entries k (n ∷ ns) = rw (eq-eqb k k refl) (ap (λ (l : List Entry). entry_of k n ∷ l) (own_entries k ns))

pub other_entries : (k t : ℕ) (ns : List Numbered) → k ≢ t → with_tag index_of t (entries_to_the_end k ns) ≡ []
other_entries k t [] ne = rw (ne_eqb k t ne) refl
other_entries k t (n ∷ ns) ne = rw (ne_eqb k t ne) (other_entries k t ns ne)
