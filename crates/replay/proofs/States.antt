-- The controllers of a job, found by place.
use Rattle.std.proofs.Common.{◌≡◌, ℕ, ◌<◌, ◌≤◌, List, length, take, Some, get_or, refl, ap, ◌∙◌, subst, arith}
use Rattle.std.specs.List.{slice_get, count_by}
use Rattle.std.proofs.lemmas.Option.{slice_get_read}
use Rattle.bc_machine.specs.Running.{MachineState}
use Rattle.frame_tree.specs.Bounds.{IsSound}
use Rattle.job_file.specs.Machines.{IsLatestOutcome}
use Rattle.job_file.specs.Jobs.{JobState, tree_in, job_in}
use Rattle.job_file.specs.Meaning.{bus_after, made_after}
use Rattle.job_file.specs.Machines.{BusSoFar, MadeSoFar}
use Rattle.ch11_recording.specs.Items.{last_number}
use Rattle.ch11_reader.specs.Recording.{Found}
use Rattle.bench_report.specs.Reports.{ChannelPart}
use Rattle.bench_settings.proofs.Lists.{map_at}
use Rattle.replay.specs.Accord.{kept_in, Agrees}
use Rattle.replay.specs.Places.{heard_channels, heard_of, latest_kept_number, IsAfter}
use Rattle.replay.specs.declared.tracks.Mark.{Mark}
use Rattle.replay.specs.declared.standings.Standing.{Standing}
use Rattle.replay.specs.declared.timeline.Timeline.{Timeline}
use Rattle.replay.specs.Finding.{count_to}
use Rattle.replay.specs.Replaying.{IsReplay}
use Rattle.replay.specs.Tracks.{Pair, jobs_in, parts_in, IsThere, IsMarked, IsTrack, IsLast}
use Rattle.replay.proofs.Counting.{is_of, room}

-- ---- one job

-- a controller of a job that stands behind a message is the job's after it
pub after : BusSoFar → MadeSoFar → (job : JobState) (part : ChannelPart) (number : ℕ) (m : MachineState) → IsSound (tree_in job) → IsThere job part number m → IsAfter job part number m
after law made_law job part number m sound there = record {
  of_job = there.of_job;
  number_is = there.number_is;
  bus = law (job_in job) part.placed m sound there.of_job ∙ ap (bus_after (job_in job) part.placed) there.number_is;
  made = made_law (job_in job) part.placed m sound there.of_job ∙ ap (made_after (job_in job) part.placed) there.number_is;
  told = there.told;
}

pub sound_pair : (job : JobState) (part : ChannelPart) (p : Pair) → IsSound (tree_in job) → record { job = job; part = part } ≡ p → IsSound (tree_in p.job)
sound_pair job part p sound same = subst (λ (v : Pair). IsSound (tree_in v.job)) same sound

pub channel_pair : (job : JobState) (part : ChannelPart) (p : Pair) (channel : ℕ) → channel ≡ job.channel → record { job = job; part = part } ≡ p → channel ≡ p.job.channel
channel_pair job part p channel is same = subst (λ (v : Pair). channel ≡ v.job.channel) same is

module _ (job : JobState) (part : ChannelPart) (channel : ℕ) (marks : List Mark) (p : Pair) (k : ℕ) (mark : Mark) (track : IsTrack job part channel marks)
    (same : record { job = job; part = part } ≡ p) (short : k ≤ length (kept_in p.job p.part)) (at : mark ≡ get_or marks k mark) where
  pub marked : IsMarked p.job p.part (last_number (take k (kept_in p.job p.part))) mark
  marked =
      subst (λ (v : Pair). k ≤ length (kept_in v.job v.part) → IsMarked v.job v.part (last_number (take k (kept_in v.job v.part))) mark) same
      (λ low.
      let less : k < length marks = omega (arith, low, track.all.counted) in
      track.all.each k mark (slice_get_read marks (length marks) k mark refl less at)) short

  sound_of : IsSound (tree_in p.job)
  sound_of = sound_pair job part p track.sound same

  pub last_of : BusSoFar → MadeSoFar → IsLast p.job p.part (last_number (take k (kept_in p.job p.part))) mark.last
  last_of law made_law = record {
    machine = marked.machine;
    after = after law made_law p.job p.part (last_number (take k (kept_in p.job p.part))) marked.machine sound_of marked.there;
    told = marked.last_is;
  }

-- ---- of all jobs

pub same_job : (pairs : List Pair) (index : ℕ) (p : Pair) (job : JobState) → slice_get pairs index ≡ Some p → slice_get (jobs_in pairs) index ≡ Some job → p.job ≡ job
same_job pairs index p job at there = let mapped = map_at (λ (q : Pair). q.job) pairs index p at in cc

pub same_part : (pairs : List Pair) (index : ℕ) (p : Pair) (part : ChannelPart) → slice_get pairs index ≡ Some p → slice_get (parts_in pairs) index ≡ Some part → p.part ≡ part
same_part pairs index p part at there = let mapped = map_at (λ (q : Pair). q.part) pairs index p at in cc

-- no more of its messages stand before the place than were kept
pub room_of : (pairs : List Pair) (found : List Found) (place : ℕ) (channels : List ℕ) (index : ℕ) (p : Pair)
    → Agrees (jobs_in pairs) (parts_in pairs) found → slice_get pairs index ≡ Some p → heard_of found place p.job.channel ≤ length (kept_in p.job p.part)
room_of pairs found place channels index p agrees at =
    room found place p.job p.part
    (agrees.each index p.job p.part (map_at (λ (q : Pair). q.job) pairs index p at) (map_at (λ (q : Pair). q.part) pairs index p at))

-- so many of them are counted
pub heard_is : (found : List Found) (place channel own heard : ℕ) (cs channels : List ℕ)
    → heard ≡ count_by (is_of channel) (take place cs) → channel ≡ own → cs ≡ channels → channels ≡ heard_channels found → heard ≡ heard_of found place own
heard_is found place channel own heard cs channels count same list is =
    count ∙ ap (λ (c : ℕ). count_by (is_of c) (take place cs)) same ∙ ap (λ (xs : List ℕ). count_by (is_of own) (take place xs)) (list ∙ is)

pub after_there : (found : List Found) (place : ℕ) (p : Pair) (job : JobState) (part : ChannelPart) (k : ℕ) (m : MachineState)
    → IsAfter p.job p.part (last_number (take k (kept_in p.job p.part))) m → k ≡ heard_of found place p.job.channel → p.job ≡ job → p.part ≡ part
    → IsAfter job part (latest_kept_number found place job part) m
after_there found place p job part k m is count same_job same_part =
    subst (λ (v : ChannelPart). IsAfter job v (latest_kept_number found place job v) m) same_part
    (subst (λ (v : JobState). IsAfter v p.part (latest_kept_number found place v p.part) m) same_job
    (subst (λ (n : ℕ). IsAfter p.job p.part (last_number (take n (kept_in p.job p.part))) m) count is))

-- the controller that stands at a place is the job's after the messages before it
pub shown : (t : Timeline) (found : List Found) (place replayed index : ℕ) (p : Pair) (standing : Standing) (m : MachineState) (job : JobState) (part : ChannelPart)
    → IsReplay (record { jobs = jobs_in t.tracks.items; parts = parts_in t.tracks.items; found = found; place = place }) t replayed
    → p ≡ get_or t.tracks.items index p → standing ≡ get_or t.live.items index standing → index < length t.tracks.items
    → ((number : ℕ) → IsThere p.job p.part number standing.machine → IsAfter p.job p.part number m)
    → slice_get (jobs_in t.tracks.items) index ≡ Some job → slice_get (parts_in t.tracks.items) index ≡ Some part → IsAfter job part (latest_kept_number found place job part) m
shown t found place replayed index p standing m job part is at_p at_standing less law j q =
    let there : slice_get t.tracks.items index ≡ Some p = slice_get_read t.tracks.items (length t.tracks.items) index p refl less at_p in
    let stands : slice_get t.live.items index ≡ Some standing = slice_get_read t.live.items (length t.live.items) index standing refl (omega (arith, less, is.stands.live.long)) at_standing in
    let here = is.stands.live.each index p standing there stands in
    after_there found place p job part standing.heard m (law (last_number (take standing.heard (kept_in p.job p.part))) here.there)
    (here.heard_is ∙ ap (λ (cs : List ℕ). count_to cs place p.job.channel) is.channels_are)
    (same_job t.tracks.items index p job there j) (same_part t.tracks.items index p part there q)

-- and it has what its latest message came to
pub told_at : (t : Timeline) (found : List Found) (place replayed index : ℕ) (p : Pair) (standing : Standing) (m : MachineState)
    → IsReplay (record { jobs = jobs_in t.tracks.items; parts = parts_in t.tracks.items; found = found; place = place }) t replayed
    → p ≡ get_or t.tracks.items index p → standing ≡ get_or t.live.items index standing → index < length t.tracks.items
    → ((number : ℕ) → IsThere p.job p.part number standing.machine → IsAfter p.job p.part number m) → IsLatestOutcome m
told_at t found place replayed index p standing m is at_p at_standing less law =
    let there : slice_get t.tracks.items index ≡ Some p = slice_get_read t.tracks.items (length t.tracks.items) index p refl less at_p in
    let stands : slice_get t.live.items index ≡ Some standing = slice_get_read t.live.items (length t.live.items) index standing refl (omega (arith, less, is.stands.live.long)) at_standing in
    let here = is.stands.live.each index p standing there stands in
    (law (last_number (take standing.heard (kept_in p.job p.part))) here.there).told
