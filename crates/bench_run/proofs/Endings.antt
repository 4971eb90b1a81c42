-- What is known at the end of a run.
use Rattle.std.proofs.Common.{◌≡◌, ℕ, zero, suc, ◌+◌, ◌-◌, ◌*◌, ◌<◌, ◌≤◌, ◌^◌, Bool, true, false, cond, List, [], ◌∷◌, ◌++◌, length, map, take, slice_get, slice_index, Option, Some, None, ⊎_elim, refl, sym, ap, ◌∙◌, subst, arith, length-append}
use Rattle.std.proofs.lemmas.List.{length-map}
use Rattle.std.specs.List.{AllByRecursion, filter}
use Rattle.std.proofs.lemmas.Bool.{cases_lt}
use Rattle.ch11_f1.specs.declared.Record.{Record}
use Rattle.mil_trunk.specs.Views.{with_tag}
use Rattle.mil_trunk.specs.Tags.{bound_of}
use Rattle.mil_trunk.proofs.Tagging.{length-filter_le}
use Rattle.mil_trunk.proofs.Bounds.{length-by_bounds}
use Rattle.job_file.specs.Jobs.{JobState}
use Rattle.ch11_f1.specs.Again.{as_message}
use Rattle.ch11_builder.specs.Packet.{Numbered, messages_of}
use Rattle.ch11_builder.specs.Recorded.{IsRecorded}
use Rattle.ch11_reader.specs.Recording.{Found}
use Rattle.ch11_reader.specs.Contents.{reading}
use Rattle.ch11_recording.specs.Items.{numbered, numbered_from, part_of, to_the_end}
use Rattle.ch11_recording.specs.WrittenFile.{Format, held_in, closed_records}
use Rattle.ch11_recording.specs.Recording.{AreDistinct}
use Rattle.ch11_recording.specs.Laws.{IsItem, RecordsAreKept, EndedIsClosed}
use Rattle.bench_report.specs.Reports.{ChannelPart, Rises}
use Rattle.bench_settings.specs.declared.settings.Settings.{Settings}
use Rattle.bench_settings.specs.Lawful.{channels_of}
use Rattle.bench_settings.specs.Kept.{kept_records, is_kept}
use Rattle.bench_run.specs.declared.entry.Entry.{Entry}
use Rattle.bench_run.specs.declared.entry.Entry.TheVariants as entry
use Rattle.bench_run.specs.Entries.{index_of, item_of, entry_of, entries_to_the_end}
use Rattle.bench_run.specs.Runs.{ArePairs, IsPartOf, IsReadAs, records_of, kept_below, most_in_all, others_than, IsOtherChannel}
use Rattle.job_file.specs.Rooms.{most_items}
use Rattle.bench_run.specs.Threads.{IsCountedIn}
use Rattle.bench_run.specs.Writer.{IsUnfit, AreOrdered}
use Rattle.bench_run.specs.Ending.{IsAll}
use Rattle.bench_run.proofs.Tagged.{all_by_index}
use Rattle.bench_run.proofs.Channels.{part_is, ended_is, no_part, no_records}
use Rattle.bench_run.proofs.Pairs.{pairs_with, seconds_with, pair_at}
use Rattle.bench_run.proofs.Sums.{own_and_others}
use Rattle.bench_run.proofs.Offering.{length-kept}
use Rattle.bench_run.proofs.Jobs.{kept_ordered, channel_at_job}
use Rattle.bench_run.proofs.Ended.{AreEnded, all_fit}
use Rattle.bench_run.proofs.Limits.{AreLow, sum_low}

-- ---- records

all_numbered : (k : ℕ) (rs : List Record) → AllByRecursion (λ r. IsRecorded (numbered 0 r)) rs → AllByRecursion IsRecorded (numbered_from k rs)
all_numbered k [] all = tt
all_numbered k (r ∷ rs) all = (record { stamp = (all.0).stamp; block = (all.0).block; gaps = (all.0).gaps; words = (all.0).words }, all_numbered (suc k) rs all.1)

all_kept : (p : Numbered → Bool) (ns : List Numbered) → AllByRecursion IsRecorded ns → AllByRecursion IsRecorded (filter p ns)
all_kept p [] all = tt
all_kept p (n ∷ ns) all = go (p n) (all_kept p ns all.1)
  where
    go : (b : Bool) → AllByRecursion IsRecorded (filter p ns) → AllByRecursion IsRecorded (cond b (n ∷ filter p ns) (filter p ns))
    go true rest = (all.0, rest)
    go false rest = rest

all_entries : (channels : List ℕ) (t : ℕ) (ns : List Numbered) → slice_index channels t < 2 ^ 16 → AllByRecursion IsRecorded ns
    → AllByRecursion (λ x. IsItem (item_of channels x)) (entries_to_the_end t ns)
all_entries channels t [] low all = ((low, tt), tt)
all_entries channels t (n ∷ ns) low all = ((low, (all.0, tt)), all_entries channels t ns low all.1)

all_mapped : (channels : List ℕ) (got : List Entry) → AllByRecursion (λ x. IsItem (item_of channels x)) got → AllByRecursion IsItem (map (item_of channels) got)
all_mapped channels [] all = tt
all_mapped channels (x ∷ got) all = (all.0, all_mapped channels got all.1)

first_none : (ns later : List Numbered) → ns ++ later ≡ [] → ns ≡ []
first_none [] later none = refl
first_none (n ∷ ns) later none = absurd cc

-- ---- channels

within : {X : Type 0} (xs : List X) (k : ℕ) (x : X) → slice_get xs k ≡ Some x → k < length xs
within [] k x at = absurd cc
within (y ∷ xs) zero x at = omega arith
within (y ∷ xs) (suc k) x at = let low = within xs k x at in omega (arith, low)

module _ (capacity most : ℕ) (given jobs : List JobState) (parts : List ChannelPart) (got : List Entry) (all : IsAll capacity most given jobs parts got) where
  -- each item is a sound one
  pub items_sound : AllByRecursion IsItem (map (item_of (channels_of jobs)) got)
  items_sound = all_mapped (channels_of jobs) got (all_by_index (λ x. IsItem (item_of (channels_of jobs) x)) got each)
    where
      each : (t : ℕ) → AllByRecursion (λ x. IsItem (item_of (channels_of jobs) x)) (with_tag index_of t got)
      each t = ⊎_elim
          (λ (low : t < length jobs). let p = pair_at (IsCountedIn capacity most given) jobs parts t all.counted low in
          let job = p.0 in let part = p.1 in
          let small : slice_index (channels_of jobs) t < 2 ^ 16 = omega (arith, channel_at_job jobs t job p.2, (p.4).channel_high) in
          subst (AllByRecursion (λ x. IsItem (item_of (channels_of jobs) x))) (sym (all.own t job part p.2 p.3))
          (all_entries (channels_of jobs) t (kept_records part.refused (records_of job)) small
          (all_kept (is_kept part.refused) (numbered_from 1 (records_of job)) (all_numbered 1 (records_of job) (p.4).recorded))))
          (λ (high : length jobs ≤ t). subst (AllByRecursion (λ x. IsItem (item_of (channels_of jobs) x))) (sym (all.others t high)) tt)
          (cases_lt t (length jobs))

  -- the entries of the jobs' indexes
  pub indexed : AllByRecursion (λ x. index_of x < length (channels_of jobs)) got
  indexed = all_by_index (λ x. index_of x < length (channels_of jobs)) got each
    where
      named : (t : ℕ) (ns : List Numbered) → t < length (channels_of jobs) → AllByRecursion (λ x. index_of x < length (channels_of jobs)) (entries_to_the_end t ns)
      named t [] low = (low, tt)
      named t (n ∷ ns) low = (low, named t ns low)

      each : (t : ℕ) → AllByRecursion (λ x. index_of x < length (channels_of jobs)) (with_tag index_of t got)
      each t = ⊎_elim
          (λ (low : t < length jobs). let p = pair_at (IsCountedIn capacity most given) jobs parts t all.counted low in
          subst (AllByRecursion (λ x. index_of x < length (channels_of jobs))) (sym (all.own t p.0 p.1 p.2 p.3))
          (named t (kept_records (p.1).refused (records_of p.0)) (omega (arith, low, length-map jobs (λ (j : JobState). j.channel)))))
          (λ (high : length jobs ≤ t). subst (AllByRecursion (λ x. index_of x < length (channels_of jobs))) (sym (all.others t high)) tt)
          (cases_lt t (length jobs))

  -- each channel's items are its records but for the refused, and its end mark
  part_taken : AreDistinct (channels_of jobs) → (k : ℕ) (job : JobState) (part : ChannelPart) → slice_get jobs k ≡ Some job → slice_get parts k ≡ Some part
      → part_of job.channel (map (item_of (channels_of jobs)) got) ≡ to_the_end job.channel (kept_records part.refused (records_of job))
  part_taken distinct k job part at at' =
      let channels : List ℕ = channels_of jobs in
      let low : k < length channels = omega (arith, within jobs k job at, length-map jobs (λ (j : JobState). j.channel)) in
      let is = channel_at_job jobs k job at in
      subst (λ c. part_of c (map (item_of channels) got) ≡ to_the_end c (kept_records part.refused (records_of job))) is
      (part_is channels k got distinct low indexed ∙ ap (map (item_of channels)) (all.own k job part at at') ∙ ended_is channels k (kept_records part.refused (records_of job)))

  pub parts_are : (s : Settings) → capacity ≡ s.queue → AreDistinct (channels_of jobs) → ArePairs (IsPartOf most given s (map (item_of (channels_of jobs)) got)) jobs parts
  parts_are s same distinct = pairs_with (IsCountedIn capacity most given) (IsPartOf most given s (map (item_of (channels_of jobs)) got)) jobs parts all.counted
      (λ k job part at at' p. record {
        channel = p.channel;
        made = p.made;
        placed = p.placed;
        rising = p.rising;
        taken = part_taken distinct k job part at at';
        full = subst (λ c. AllByRecursion (λ n. c ≤ kept_below n part.refused job + most_in_all most (others_than job.channel given)) part.refused) same p.full;
      })

  -- what is read of each channel
  pub read_are : EndedIsClosed → (f : Format) (found : List Found) → AreDistinct (channels_of jobs)
      → ((channel : ℕ) → reading found channel ≡ map as_message (messages_of (closed_records f channel (map (item_of (channels_of jobs)) got))))
      → ArePairs (IsReadAs found) jobs parts
  read_are closed f found distinct read = pairs_with (IsCountedIn capacity most given) (IsReadAs found) jobs parts all.counted
      (λ k job part at at' p. read job.channel
      ∙ ap (λ (ns : List Numbered). map as_message (messages_of ns))
      (closed f job.channel (map (item_of (channels_of jobs)) got) (kept_records part.refused (records_of job)) (part_taken distinct k job part at at')))

  -- nothing is recorded, and nothing read, of a channel that no job has
  pub others_none : (channel : ℕ) → IsOtherChannel jobs channel → part_of channel (map (item_of (channels_of jobs)) got) ≡ []
  others_none channel other = no_part (channels_of jobs) channel got other indexed

  pub others_silent : RecordsAreKept → (f : Format) (found : List Found)
      → ((channel : ℕ) → reading found channel ≡ map as_message (messages_of (closed_records f channel (map (item_of (channels_of jobs)) got))))
      → (channel : ℕ) → IsOtherChannel jobs channel → reading found channel ≡ []
  others_silent keeps f found read channel other =
      let items = map (item_of (channels_of jobs)) got in
      read channel
      ∙ ap (λ (ns : List Numbered). map as_message (messages_of ns))
      (first_none (closed_records f channel items) (held_in f channel items).records (keeps f channel items ∙ no_records (channels_of jobs) channel got other indexed))

  -- all that was received could be recorded
  abbrev sent_of : Option JobState → Option ChannelPart → List Numbered
  sent_of (Some job) (Some part) = kept_records part.refused (records_of job)
  sent_of (Some job) None = []
  sent_of None part = []

  abbrev sent_at : ℕ → List Numbered
  sent_at t = sent_of (slice_get jobs t) (slice_get parts t)

  sent_is : (t : ℕ) (job : JobState) (part : ChannelPart) → slice_get jobs t ≡ Some job → slice_get parts t ≡ Some part → sent_at t ≡ kept_records part.refused (records_of job)
  sent_is t job part at at' = λ i. sent_of (at i) (at' i)

  all_small : (rs : List Record) → AllByRecursion (λ r. IsRecorded (numbered 0 r)) rs → AllByRecursion (λ (r : Record). r.stamp < 2 ^ 48) rs
  all_small [] every = tt
  all_small (r ∷ rs) every = ((every.0).stamp, all_small rs every.1)

  ended : AreEnded (channels_of jobs) got sent_at
  ended = (
    λ t low.
        let p = pair_at (IsCountedIn capacity most given) jobs parts t all.counted (omega (arith, low, length-map jobs (λ (j : JobState). j.channel))) in
        all.own t p.0 p.1 p.2 p.3 ∙ ap (entries_to_the_end t) (sym (sent_is t p.0 p.1 p.2 p.3)),
    λ t high. all.others t (omega (arith, high, length-map jobs (λ (j : JobState). j.channel))),
  )

  pub nothing_unfit : ¬ IsUnfit (channels_of jobs) got
  nothing_unfit = all_fit (channels_of jobs) got sent_at ended
      (λ t low.
      let p = pair_at (IsCountedIn capacity most given) jobs parts t all.counted (omega (arith, low, length-map jobs (λ (j : JobState). j.channel))) in
      subst (AreOrdered 0) (sym (sent_is t p.0 p.1 p.2 p.3)) (kept_ordered (p.1).refused (records_of p.0) (all_small (records_of p.0) (p.4).recorded)))

  -- no more was received than the channels can send
  abbrev tops : List JobState → List ℕ
  tops js = map (λ (j : JobState). 1000001) js

  tops_low : (js : List JobState) → AreLow (tops js)
  tops_low [] = tt
  tops_low (j ∷ js) = (omega arith, tops_low js)

  tops_long : (js : List JobState) → length (tops js) ≡ length js
  tops_long [] = refl
  tops_long (j ∷ js) = ap suc (tops_long js)

  top_at : (js : List JobState) (t : ℕ) → t < length js → bound_of (tops js) t ≡ 1000001
  top_at [] t low = absurd (omega (arith, low))
  top_at (j ∷ js) zero low = refl
  top_at (j ∷ js) (suc t) low = top_at js t (omega (arith, low))

  pub got_few : length got ≤ 1065537 * length jobs
  got_few =
      let fewer = length-by_bounds index_of (tops jobs) got each in
      let top = sum_low (tops jobs) (tops_low jobs) in
      omega (arith, fewer, top, tops_long jobs)
    where
      each : (t : ℕ) → length (with_tag index_of t got) ≤ bound_of (tops jobs) t
      each t = ⊎_elim
          (λ (low : t < length jobs). let p = pair_at (IsCountedIn capacity most given) jobs parts t all.counted low in
          let own = ap (λ (es : List Entry). length es) (all.own t p.0 p.1 p.2 p.3) in
          let ends = length-append (map (entry_of t) (kept_records (p.1).refused (records_of p.0))) (entry.End t ∷ []) in
          omega (arith, own, ends, length-kept t (p.1).refused (records_of p.0), (p.4).made, (p.4).made_high, top_at jobs t low))
          (λ (high : length jobs ≤ t). let none = ap (λ (es : List Entry). length es) (all.others t high) in omega (arith, none))
          (cases_lt t (length jobs))

-- a queue with room for all refuses none
kept_few : (number : ℕ) (refused : List ℕ) (job : JobState) → kept_below number refused job ≤ number - 1
kept_few number refused job =
    let fewer = length-filter_le (is_kept refused) (numbered_from 1 (take (number - 1) (records_of job))) in
    let numbers = length-numbered 1 (take (number - 1) (records_of job)) in
    omega (arith, fewer, numbers, length-front (number - 1) (records_of job))
  where
    length-numbered : (k : ℕ) (rs : List Record) → length (numbered_from k rs) ≡ length rs
    length-numbered k [] = refl
    length-numbered k (r ∷ rs) = ap suc (length-numbered (suc k) rs)

    length-front : (n : ℕ) (rs : List Record) → length (take n rs) ≤ n
    length-front zero rs = omega arith
    length-front (suc n) [] = omega arith
    length-front (suc n) (r ∷ rs) = let low = length-front n rs in omega (arith, low)

-- a job as it was given, of the same channel, that may offer more items than messages are made where so many actions are
-- posted to it
pub record IsGiven (most : ℕ) (given : List JobState) (k : ℕ) (job : JobState) : Type 0 where
  pub own : JobState
  pub at : slice_get given k ≡ Some own
  pub channel : job.channel ≡ own.channel
  pub few : length (records_of job) < most_items most own

abbrev pub AreGiven : ℕ → List JobState → List JobState → Type 0
AreGiven most given jobs = (k : ℕ) (job : JobState) → slice_get jobs k ≡ Some job → IsGiven most given k job

pub none_refused : (capacity most : ℕ) (given jobs : List JobState) (parts : List ChannelPart) → AreDistinct (channels_of given) → AreGiven most given jobs
    → ArePairs (IsCountedIn capacity most given) jobs parts → most_in_all most given ≤ capacity → AllByRecursion (λ (part : ChannelPart). part.refused ≡ []) parts
none_refused capacity most given jobs parts distinct are counted room = seconds_with (IsCountedIn capacity most given) (λ (part : ChannelPart). part.refused ≡ []) jobs parts counted
    (λ k job part at at' p.
    let is = are k job at in
    let others : most_in_all most (others_than job.channel given) ≡ most_in_all most (others_than is.own.channel given) = ap (λ c. most_in_all most (others_than c given)) is.channel in
    let sum = own_and_others most given k is.own distinct is.at in
    go job part.refused part.made (most_items most is.own) (most_in_all most (others_than job.channel given)) (omega (arith, sum, others, room)) p.made is.few p.rising p.full)
  where
    go : (job : JobState) (refused : List ℕ) (made own others : ℕ) → own + others ≤ capacity
        → made ≡ length (records_of job) → length (records_of job) < own → Rises 0 made refused
        → AllByRecursion (λ n. capacity ≤ kept_below n refused job + others) refused → refused ≡ []
    go job [] made own others total is few rising full = refl
    go job (n ∷ refused) made own others total is few rising full =
        let low = kept_few n (n ∷ refused) job in absurd (omega (arith, total, is, few, rising.0, rising.1, full.0, low))
