-- The jobs of a live run, each with the posts that were placed.
use Rattle.std.proofs.Common.{◌≡◌, ℕ, zero, suc, ◌<◌, ◌≤◌, Bool, true, false, List, [], ◌∷◌, ◌++◌, length, map, append-nil, refl, sym, ap, ◌∙◌, subst, arith}
use Rattle.std.specs.Prelude.{Some, slice_get, Result, Ok, Err, IfOk, IfErr}
use Rattle.std.specs.List.{AllByRecursion}
use Rattle.std.proofs.lemmas.List.{length-map}
use Rattle.mil_trunk.specs.Tags.{bound_of}
use Rattle.mil_trunk.specs.Views.{with_tag}
use Rattle.bc_machine.specs.declared.placed.Placed.{Placed}
use Rattle.job_file.specs.Jobs.{JobState}
use Rattle.bench_report.specs.Reports.{ChannelPart}
use Rattle.ch11_recording.specs.Recording.{AreDistinct}
use Rattle.bench_settings.specs.declared.settings.Settings.{Settings}
use Rattle.bench_settings.specs.Lawful.{AreLawful, channels_of}
use Rattle.bench_settings.specs.Kept.{kept_records}
use Rattle.bench_run.specs.declared.entry.Entry.{Entry}
use Rattle.bench_mail.specs.declared.mailbox.Mailbox.{Mailbox}
use Rattle.bench_mail.specs.declared.mailbox.Inbox.{Inbox}
use Rattle.bench_run.specs.declared.threads.Joined.{Joined}
use Rattle.bench_run.specs.Entries.{index_of, entries_to_the_end}
use Rattle.bench_run.specs.Runs.{ArePairs, records_of, most_in_all, others_than}
use Rattle.job_file.specs.Rooms.{most_items}
use Rattle.bench_mail.specs.Mail.{IsInboxOf}
use Rattle.job_file.specs.Beside.{with_posts, IsLiveIn}
use Rattle.job_file.specs.Timed.{says_nothing}
use Rattle.bench_run.specs.Live.{IsRunAs, LiveChannel, live_job, ArePlaced, AreRunAs, AreInboxesOf}
use Rattle.bench_run.specs.Threads.{IsThreadReport, IsCountedIn, AreEnded}
use Rattle.bench_run.specs.Ending.{IsAll, IsAllLive}
use Rattle.bench_settings.proofs.Lists.{map_at, which}
use Rattle.bench_run.proofs.Rows.{same_some, some_at, place_below, none_at, all_at}
use Rattle.bench_run.proofs.Beginning.{all_got}
use Rattle.bench_run.proofs.Endings.{AreGiven}
use Rattle.bench_run.proofs.PlacedPosts.{few_placed}

abbrev pub jobs_in : List LiveChannel → List JobState
jobs_in rows = map (λ (c : LiveChannel). c.job) rows

abbrev pub lives_in : List LiveChannel → List JobState
lives_in rows = map live_job rows

-- ---- what a run changes nothing of

live_channel : (plain : Bool) (most : ℕ) (job : JobState) (posts : List Placed) (live : JobState) → IsLiveIn plain most job posts live → live.channel ≡ job.channel
live_channel true most job posts live is = ap (λ (j : JobState). j.channel) is
live_channel false most job posts live is = ap (λ (j : JobState). j.channel) is.live_is

pub same_channel : (is_live : Bool) (most : ℕ) (job : JobState) (posts : List Placed) (live : JobState) → IsRunAs is_live most job posts live → live.channel ≡ job.channel
same_channel true most job posts live is = live_channel (says_nothing job.timed) most job posts live is
same_channel false most job posts live is = ap (λ (j : JobState). j.channel) is

cons_alike : {X : Type 0} {x y : X} {xs ys : List X} → x ≡ y → xs ≡ ys → x ∷ xs ≡ y ∷ ys
cons_alike e f i = e i ∷ f i

pub channels_alike : (is_live : Bool) (most : ℕ) (rows : List LiveChannel) → AllByRecursion (λ (c : LiveChannel). IsRunAs is_live most c.job c.posts c.live) rows
    → channels_of (lives_in rows) ≡ channels_of (jobs_in rows)
channels_alike is_live most [] all = refl
channels_alike is_live most (c ∷ rows) all = cons_alike (same_channel is_live most c.job c.posts c.live all.0) (channels_alike is_live most rows all.1)

-- ---- a row for each channel

abbrev row_of : JobState → Inbox → Joined → List Placed → JobState → LiveChannel
row_of job before j posts live = record { job = job; before = before; after = j.inbox; part = j.part; posts = posts; live = live }

pub record HasRows (Q : ℕ → LiveChannel → Type 0) (jobs : List JobState) (before : List Inbox) (joined : List Joined) : Type 0 where
  pub rows : List LiveChannel
  pub jobs_are : jobs_in rows ≡ jobs
  pub before_are : map (λ (c : LiveChannel). c.before) rows ≡ before
  pub after_are : map (λ (c : LiveChannel). c.after) rows ≡ map (λ (j : Joined). j.inbox) joined
  pub parts_are : map (λ (c : LiveChannel). c.part) rows ≡ map (λ (j : Joined). j.part) joined
  pub each : (k : ℕ) (c : LiveChannel) → slice_get rows k ≡ Some c → Q k c

more_rows : (Q : ℕ → LiveChannel → Type 0) (rows : List LiveChannel) (x : LiveChannel) → Q 0 x → ((k : ℕ) (c : LiveChannel) → slice_get rows k ≡ Some c → Q (suc k) c)
    → (k : ℕ) (c : LiveChannel) → slice_get (x ∷ rows) k ≡ Some c → Q k c
more_rows Q rows x first rest zero c at = subst (Q 0) (same_some at) first
more_rows Q rows x first rest (suc k) c at = rest k c at

rows_from : (Q : ℕ → LiveChannel → Type 0) (jobs : List JobState) (before : List Inbox) (joined : List Joined) → length before ≡ length jobs → length joined ≡ length jobs
    → ((k : ℕ) (job : JobState) (old : Inbox) (j : Joined) → slice_get jobs k ≡ Some job → slice_get before k ≡ Some old → slice_get joined k ≡ Some j
    → (posts : List Placed) × (live : JobState) × Q k (row_of job old j posts live))
    → HasRows Q jobs before joined
rows_from Q [] [] [] long long' each = record { rows = []; jobs_are = refl; before_are = refl; after_are = refl; parts_are = refl; each = λ k c at. absurd cc }
rows_from Q [] [] (j ∷ joined) long long' each = absurd (omega (arith, long'))
rows_from Q [] (i ∷ before) joined long long' each = absurd (omega (arith, long))
rows_from Q (job ∷ jobs) [] joined long long' each = absurd (omega (arith, long))
rows_from Q (job ∷ jobs) (i ∷ before) [] long long' each = absurd (omega (arith, long'))
rows_from Q (job ∷ jobs) (i ∷ before) (j ∷ joined) long long' each =
    let first = each 0 job i j refl refl refl in
    let rest = rows_from (λ k. Q (suc k)) jobs before joined (omega (arith, long)) (omega (arith, long')) (λ k x y z at at' at''. each (suc k) x y z at at' at'') in
    record {
      rows = row_of job i j first.0 first.1 ∷ rest.rows;
      jobs_are = ap (λ l. job ∷ l) rest.jobs_are;
      before_are = ap (λ l. i ∷ l) rest.before_are;
      after_are = ap (λ l. j.inbox ∷ l) rest.after_are;
      parts_are = ap (λ l. j.part ∷ l) rest.parts_are;
      each = more_rows Q rest.rows (row_of job i j first.0 first.1) first.2 rest.each;
    }

all_of : (P : LiveChannel → Type 0) (rows : List LiveChannel) → ((k : ℕ) (c : LiveChannel) → slice_get rows k ≡ Some c → P c) → AllByRecursion P rows
all_of P [] each = tt
all_of P (c ∷ rows) each = (each 0 c refl, all_of P rows (λ k x at. each (suc k) x at))

pairs_rows : (P : JobState → ChannelPart → Type 0) (rows : List LiveChannel) → ((k : ℕ) (c : LiveChannel) → slice_get rows k ≡ Some c → P (live_job c) c.part)
    → ArePairs P (lives_in rows) (map (λ (c : LiveChannel). c.part) rows)
pairs_rows P [] each = tt
pairs_rows P (c ∷ rows) each = (each 0 c refl, pairs_rows P rows (λ k x at. each (suc k) x at))

-- the row of a job and its part
row_at : (P : JobState → ChannelPart → Type 0) (rows : List LiveChannel) (k : ℕ) (live : JobState) (part : ChannelPart)
    → slice_get (lives_in rows) k ≡ Some live → slice_get (map (λ (c : LiveChannel). c.part) rows) k ≡ Some part
    → ((c : LiveChannel) → slice_get rows k ≡ Some c → P (live_job c) c.part) → P live part
row_at P [] k live part at at' each = absurd cc
row_at P (c ∷ rows) zero live part at at' each =
    let live_is : live_job c ≡ live = same_some at in
    let part_is : c.part ≡ part = same_some at' in
    subst (λ (z : JobState × ChannelPart). P z.0 z.1) (λ i. (live_is i, part_is i)) (each c refl)
row_at P (c ∷ rows) (suc k) live part at at' each = row_at P rows k live part at at' (λ x e. each x e)

-- ---- all that was received

module _ (capacity queue : ℕ) (is_live : Bool) (most : ℕ) (jobs : List JobState) (boxes : List Mailbox) (before : List Inbox) (joined : List Joined) (sent got : List Entry) (bounds : List ℕ) where
  abbrev IsOfRow : ℕ → LiveChannel → Type 0
  IsOfRow k c =
      ArePlaced most c.part.made c.before c.after c.posts × IsThreadReport capacity (most_in_all most (others_than c.job.channel jobs)) (live_job c) c.part
      × (with_tag index_of k sent ≡ entries_to_the_end k (kept_records c.part.refused (records_of (live_job c))))
      × IsRunAs is_live most c.job c.posts c.live × (length (records_of c.live) < most_items most c.job)

  -- what others may have sent, by the channel of the job as it was run
  counted_as : (c : LiveChannel) → IsRunAs is_live most c.job c.posts c.live → IsThreadReport capacity (most_in_all most (others_than c.job.channel jobs)) (live_job c) c.part
      → IsCountedIn capacity most jobs (live_job c) c.part
  counted_as c means counted =
      subst (λ n. IsThreadReport capacity (most_in_all most (others_than n jobs)) (live_job c) c.part) (sym (same_channel is_live most c.job c.posts c.live means)) counted

  pub all_live : capacity ≡ queue → length jobs ≤ 32 → bounds ≡ map (most_items most) jobs → length boxes ≡ length jobs → length before ≡ length jobs → length joined ≡ length jobs
      → AreEnded capacity sent is_live jobs most boxes before joined → AllByRecursion (λ (j : Joined). j.is_whole ≡ true) joined
      → ((t : ℕ) → t < 64 → with_tag index_of t sent ≡ with_tag index_of t got)
      → ((t : ℕ) → bound_of bounds t ≡ 0 → with_tag index_of t got ≡ [])
      → IsAllLive queue is_live most jobs before (map (λ (j : Joined). j.inbox) joined) (map (λ (j : Joined). j.part) joined) got
  all_live same few bounds_are boxes_long before_long joined_long ended wholes settled barred =
      let has = rows_from IsOfRow jobs before joined before_long joined_long (λ k job old j at at' at''.
      let box = some_at boxes k (let low = place_below jobs k job at in omega (arith, low, boxes_long)) in
      let e = (ended k j at'' job box.0 old at box.1 at').1 (all_at (λ (x : Joined). x.is_whole ≡ true) joined k j wholes at'') in
      (e.posts, e.live, (e.placed, e.counted, e.own_are, e.means, e.few))) in
      let lives : List JobState = lives_in has.rows in
      let parts : List ChannelPart = map (λ (c : LiveChannel). c.part) has.rows in
      let counted_in : (k : ℕ) (c : LiveChannel) → slice_get has.rows k ≡ Some c → IsCountedIn capacity most jobs (live_job c) c.part = λ k c at. counted_as c (has.each k c at).3 (has.each k c at).1 in
      let long : length lives ≡ length jobs = length-map has.rows live_job ∙ sym (length-map has.rows (λ (c : LiveChannel). c.job)) ∙ ap length has.jobs_are in
      let all = all_got capacity queue most jobs lives parts sent got bounds same few long bounds_are
      (pairs_rows (IsCountedIn capacity most jobs) has.rows counted_in)
      (λ k live part at at'. row_at (λ l p. IsCountedIn capacity most jobs l p × (with_tag index_of k sent ≡ entries_to_the_end k (kept_records p.refused (records_of l)))) has.rows k live part at at' (λ c e. (counted_in k c e, (has.each k c e).2)))
      settled barred in
      record {
        lives = lives;
        live = record {
          rows = has.rows;
          jobs_are = has.jobs_are;
          before_are = has.before_are;
          after_are = has.after_are;
          parts_are = has.parts_are;
          lives_are = refl;
          placed = all_of (λ (c : LiveChannel). ArePlaced most c.part.made c.before c.after c.posts) has.rows (λ k c at. (has.each k c at).0);
          means = all_of (λ (c : LiveChannel). IsRunAs is_live most c.job c.posts c.live) has.rows (λ k c at. (has.each k c at).3);
          few = all_of (λ (c : LiveChannel). length (records_of c.live) < most_items most c.job) has.rows (λ k c at. (has.each k c at).4);
        };
        all = subst (λ (ps : List ChannelPart). IsAll queue most jobs lives ps got) has.parts_are all;
      }

  -- each inbox that comes back is that of its mailbox
  pub inboxes_back : length before ≡ length jobs → length boxes ≡ length jobs → AreEnded capacity sent is_live jobs most boxes before joined → length joined ≡ length jobs
      → AreInboxesOf boxes (map (λ (j : Joined). j.inbox) joined)
  inboxes_back before_long boxes_long ended joined_long k box inbox at at' =
      let low = place_below boxes k box at in
      let j = some_at joined k (omega (arith, low, boxes_long, joined_long)) in
      let job = some_at jobs k (omega (arith, low, boxes_long)) in
      let old = some_at before k (omega (arith, low, boxes_long, before_long)) in
      let is : j.0.inbox ≡ inbox = same_some (sym (inbox_at joined k j.0 j.1) ∙ at') in
      subst (IsInboxOf box) is (ended k j.0 j.1 job.0 box old.0 job.1 at old.1).0
    where
      inbox_at : (joined : List Joined) (k : ℕ) (j : Joined) → slice_get joined k ≡ Some j → slice_get (map (λ (x : Joined). x.inbox) joined) k ≡ Some j.inbox
      inbox_at [] k j at = absurd cc
      inbox_at (x ∷ joined) zero j at = ap (λ (y : Joined). Some y.inbox) (same_some at)
      inbox_at (x ∷ joined) (suc k) j at = inbox_at joined k j at

-- ---- the jobs as they were run

module _ (is_live : Bool) (most : ℕ) (jobs : List JobState) (before after : List Inbox) (parts : List ChannelPart) (lives : List JobState) (live : AreRunAs is_live most jobs before after parts lives) where
  pub lives_channels : channels_of lives ≡ channels_of jobs
  lives_channels = ap channels_of (sym live.lives_are) ∙ channels_alike is_live most live.rows live.means ∙ ap channels_of live.jobs_are

  -- they are the jobs that were given
  pub lives_given : AreGiven most jobs lives
  lives_given k job at =
      let row = which live_job live.rows k job (ap (λ (js : List JobState). slice_get js k) live.lives_are ∙ at) in
      let means = all_at (λ (c : LiveChannel). IsRunAs is_live most c.job c.posts c.live) live.rows k row.0 live.means row.1 in
      let few = all_at (λ (c : LiveChannel). length (records_of c.live) < most_items most c.job) live.rows k row.0 live.few row.1 in
      record {
        own = row.0.job;
        at = ap (λ (js : List JobState). slice_get js k) (sym live.jobs_are) ∙ map_at (λ (c : LiveChannel). c.job) live.rows k row.0 row.1;
        channel = ap (λ (j : JobState). j.channel) row.2 ∙ same_channel is_live most row.0.job row.0.posts row.0.live means;
        few = subst (λ (j : JobState). length (records_of j) < most_items most row.0.job) (sym row.2) few;
      }

  lives_long : length lives ≡ length jobs
  lives_long = ap length (sym live.lives_are) ∙ length-map live.rows live_job ∙ sym (length-map live.rows (λ (c : LiveChannel). c.job)) ∙ ap length live.jobs_are

  pub lives_lawful : (s : Settings) → AreLawful jobs s → AreLawful lives s
  lives_lawful s lawful = record {
    ranges = record {
      some = omega (arith, lives_long, lawful.ranges.some);
      few = omega (arith, lives_long, lawful.ranges.few);
      limit_low = lawful.ranges.limit_low;
      limit_high = lawful.ranges.limit_high;
      queue_low = lawful.ranges.queue_low;
      queue_high = lawful.ranges.queue_high;
      posts = lawful.ranges.posts;
    };
    distinct = subst AreDistinct (sym lives_channels) lawful.distinct;
    prologue = lawful.prologue;
  }

-- where no post may be taken, and all stands at its numbers, they are the jobs
no_posts_in : (c : LiveChannel) → ArePlaced 0 c.part.made c.before c.after c.posts → c.live ≡ with_posts c.job c.posts → live_job c ≡ c.job
no_posts_in c is means =
    let none : c.posts ≡ [] = empty c.posts (few_placed c.posts is.got is.first) is.few in
    means ∙ ap (λ ps. with_posts c.job ps) none ∙ ap (λ acts. record c.job { actions = acts }) (append-nil c.job.actions)
  where
    empty : {got : ℕ} (ps : List Placed) → length ps ≤ got → got ≤ 0 → ps ≡ []
    empty [] low none = refl
    empty (p ∷ ps) low none = absurd (omega (arith, low, none))

same_rows : (rows : List LiveChannel) → AllByRecursion (λ (c : LiveChannel). ArePlaced 0 c.part.made c.before c.after c.posts) rows
    → AllByRecursion (λ (c : LiveChannel). IsRunAs false 0 c.job c.posts c.live) rows → lives_in rows ≡ jobs_in rows
same_rows [] all means = refl
same_rows (c ∷ rows) all means = cons_alike (no_posts_in c all.0 means.0) (same_rows rows all.1 means.1)

pub lives_are_jobs : (jobs : List JobState) (before after : List Inbox) (parts : List ChannelPart) (lives : List JobState) → AreRunAs false 0 jobs before after parts lives → lives ≡ jobs
lives_are_jobs jobs before after parts lives live = sym live.lives_are ∙ same_rows live.rows live.placed live.means ∙ live.jobs_are

-- no inbox is that of another mailbox
pub no_inboxes : (boxes : List Mailbox) (inboxes : List Inbox) → inboxes ≡ [] → AreInboxesOf boxes inboxes
no_inboxes boxes inboxes none k box inbox at at' = absurd (none_at inboxes k inbox none at')

pub if_ok : {A E : Type 0} (P Q : A → Type 0) (r : Result A E) → ((a : A) → P a → Q a) → IfOk r P → IfOk r Q
if_ok P Q (Ok a) step is = step a is
if_ok P Q (Err e) step is = tt

pub if_err : {A E : Type 0} (P Q : E → Type 0) (r : Result A E) → ((e : E) → P e → Q e) → IfErr r P → IfErr r Q
if_err P Q (Ok a) step is = tt
if_err P Q (Err e) step is = step e is

-- one mailbox more, with its inbox
pub ends_more : (boxes : List Mailbox) (inboxes : List Inbox) (box : Mailbox) (inbox : Inbox) → length boxes ≡ length inboxes → AreInboxesOf boxes inboxes → IsInboxOf box inbox
    → AreInboxesOf (boxes ++ box ∷ []) (inboxes ++ inbox ∷ [])
ends_more [] [] box inbox long all is zero b i at at' = subst (λ (z : Mailbox × Inbox). IsInboxOf z.0 z.1) (let e = same_some at in let f = same_some at' in λ j. (e j, f j)) is
ends_more [] [] box inbox long all is (suc k) b i at at' = absurd cc
ends_more [] (i ∷ inboxes) box inbox long all is k b x at at' = absurd (omega (arith, long))
ends_more (b ∷ boxes) [] box inbox long all is k x i at at' = absurd (omega (arith, long))
ends_more (b ∷ boxes) (i ∷ inboxes) box inbox long all is zero x y at at' = all zero x y at at'
ends_more (b ∷ boxes) (i ∷ inboxes) box inbox long all is (suc k) x y at at' = ends_more boxes inboxes box inbox (omega (arith, long)) (λ n u v e f. all (suc n) u v e f) is k x y at at'
