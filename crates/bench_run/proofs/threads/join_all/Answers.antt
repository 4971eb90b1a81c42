use Rattle.std.proofs.Common.{rules, arith, refl, sym, ap, ◌∙◌, ◌≡◌, ◌≢◌, ◌<◌, ◌≤◌, ◌+◌, ◌++◌, ◌||◌, ℕ, List, true, length, vec_len, subst, append-nil, ⊎_elim, suc}
use Rattle.std.proofs.Math.Bool.{or-true}
use Rattle.std.proofs.lemmas.Bool.{cases_lt}
use Rattle.std.specs.Prelude.{Some, slice_get}
use Rattle.mil_trunk.specs.Ends.{bounds_of, tags_of, sent, capacity_of}
use Rattle.mil_trunk.specs.Tags.{has, bounds_outside}
use Rattle.mil_trunk.specs.Views.{with_tag}
use Rattle.mil_trunk.proofs.Tagging.{with_tag-append}
use Rattle.job_file.specs.Jobs.{JobState}
use Rattle.ch11_builder.specs.Packet.{Numbered}
use Rattle.bench_run.specs.declared.entry.Entry.{Entry}
use Rattle.bench_mail.specs.declared.mailbox.Mailbox.{Mailbox}
use Rattle.bench_mail.specs.declared.mailbox.Inbox.{Inbox}
use Rattle.bench_run.specs.Entries.{index_of, entries_to_the_end}
use Rattle.bench_mail.specs.Mail.{IsInboxOf}
use Rattle.bench_run.specs.Runs.{most_in_all, others_than}
use Rattle.bench_run.specs.Threads.{IsPromised, IsThreadEnded}
use Rattle.bench_run.proofs.Courses.{ended_as}
use Rattle.bench_run.proofs.Rows.{row_push, row_first, row_rest, place_below, same_some, none_at}
use Rattle.bench_run.proofs.Sums.{others_bounds, own_entries, other_entries}
use Rattle.bench_run.proofs.threads.join_all.Goals as goal

pub loop-handle-init : goal.loop-handle-init
loop-handle-init g c =
    let long : length c.args.joined.items ≡ vec_len c.args.joined = search rules in
    let empty = ap length c.requires.joined.0 in
    let gives = c.into_iter-handle-iterator.ensures.into_iter_gives in
    let none : vec_len c.args.joined ≡ 0 = omega (arith, long, empty) in
    record {
      ours = (c.requires.ticket.0, refl);
      left = omega (arith, none, gives.1);
      low = λ t lt. absurd (omega (arith, lt, none));
      high = λ t it. it;
      capacity = c.requires.joined.1;
      promised = λ k h at.
          let at_first : slice_get c.args.handles.items k ≡ Some h = ap (λ l. slice_get l k) (sym gives.0) ∙ at in
          let place : k ≡ vec_len c.args.joined + k = omega (arith, none) in
          subst (λ m. IsPromised c.args.trunk.now (bounds_of c.args.rest.now) c.args.before.now.is_live c.args.before.now.jobs.now c.args.before.now.most c.args.before.now.boxes.now c.args.before.now.inboxes.value.items m h.promise) place (c.requires.promised k h at_first);
      ended = λ k x at_x job box before. absurd (none_at c.args.joined.items k x c.requires.joined.0 at_x);
      later = λ t top. ap (with_tag index_of t) c.requires.ticket.1;
    }

pub join_one-requires : goal.join_one-requires
join_one-requires g c =
    let step = c.in-Some.ensures.steps in
    let n = vec_len c.loop-handle.joined in
    let first = row_first (λ k h. IsPromised c.args.trunk.now (bounds_of c.args.rest.now) c.args.before.now.is_live c.args.before.now.jobs.now c.args.before.now.most c.args.before.now.boxes.now c.args.before.now.inboxes.value.items (n + k) h.promise) _ _ c.in-Some.handle step.0 c.loop-handle.invariant.promised in
    record { ticket = (c.loop-handle.invariant.ours.0, first.trunk_is) }

pub loop-handle-preserved : goal.loop-handle-preserved
loop-handle-preserved g c =
    let was = c.loop-handle.invariant in
    let step = c.in-Some.ensures.steps in
    let pushed = c.push_reserved.ensures in
    let one = c.join_one.ensures in
    let n = vec_len c.loop-handle.joined in
    let jobs = c.args.before.now.jobs.now in
    let boxes = c.args.before.now.boxes.now in
    let inboxes = c.args.before.now.inboxes.value.items in
    let most = c.args.before.now.most in
    let is_live = c.args.before.now.is_live in
    let bounds = bounds_of c.args.rest.now in
    let capacity = capacity_of c.args.trunk.now in
    let new = c.join_one.result in
    let p = c.in-Some.handle.promise in
    let first = row_first (λ k h. IsPromised c.args.trunk.now bounds is_live jobs most boxes inboxes (n + k) h.promise) _ _ c.in-Some.handle step.0 was.promised in
    let here : IsPromised c.args.trunk.now bounds is_live jobs most boxes inboxes n p = let n0 : n + 0 ≡ n = omega arith in subst (λ m. IsPromised c.args.trunk.now bounds is_live jobs most boxes inboxes m p) n0 first in
    let e = one.ended in
    let rs : List Numbered = e.kept in
    let mine : List Entry = entries_to_the_end n rs in
    let old : List Entry = sent c.loop-handle.rest in
    let now : List Entry = sent c.join_one.new.rest in
    let mine_are : one.ended.own ≡ mine = e.own_are ∙ ap (λ i. entries_to_the_end i rs) here.index_is in
    let grown : now ≡ old ++ mine = e.grown ∙ ap (λ l. old ++ l) mine_are in
    let keeps : (t : ℕ) → has (tags_of c.loop-handle.rest) t ≡ true → has (tags_of c.join_one.new.rest) t ≡ true = λ t it. one.tags t ∙ ap (λ b. b || has (tags_of p.ticket.value) t) it in
    let gains : has (tags_of c.join_one.new.rest) n ≡ true = one.tags n ∙ ap (λ b. has (tags_of c.loop-handle.rest) n || b) here.tags.0 ∙ or-true (has (tags_of c.loop-handle.rest) n) in
    let apart : (t : ℕ) → n ≢ t → with_tag index_of t now ≡ with_tag index_of t old = λ t ne. ap (with_tag index_of t) grown ∙ with_tag-append index_of t old mine
    ∙ ap (λ l. with_tag index_of t old ++ l) (other_entries n t rs ne) ∙ append-nil (with_tag index_of t old) in
    let own : with_tag index_of n now ≡ mine = ap (with_tag index_of n) grown ∙ with_tag-append index_of n old mine
    ∙ ap (λ l. l ++ with_tag index_of n mine) (was.later n (omega arith)) ∙ own_entries n rs in
    let others : bounds_outside (tags_of p.ticket.value) (bounds_of p.ticket.value) ≡ most_in_all most (others_than p.job.now.channel jobs) =
    ap (bounds_outside (tags_of p.ticket.value)) (here.bounds_are ∙ c.requires.bounds) ∙ others_bounds most jobs n (tags_of p.ticket.value) p.job.now c.requires.distinct here.job_is here.tags in
    let box_there : IsInboxOf p.mailbox.now new.inbox = e.inbox in
    let mine_ended : new.is_whole ≡ true → IsThreadEnded capacity (most_in_all most (others_than p.job.now.channel jobs)) n is_live p.job.now most p.inbox.value new (with_tag index_of n now) = λ whole.
    ended_as capacity (bounds_outside (tags_of p.ticket.value) (bounds_of p.ticket.value)) (most_in_all most (others_than p.job.now.channel jobs)) p.index n p.is_live is_live p.job.now p.most most p.inbox.value new one.ended.own (with_tag index_of n now)
    (e.ended whole) others here.index_is here.is_live_is here.most_is (own ∙ sym mine_are) in
    let long : length c.loop-handle.joined.items ≡ n = search rules in
    record {
      ours = (one.ticket.0, one.ticket.1 ∙ was.ours.1);
      left = omega (arith, pushed.len, step.1, was.left);
      low = λ t lt. ⊎_elim (λ (low : t < n). keeps t (was.low t low)) (λ (high : n ≤ t). let is : n ≡ t = omega (arith, pushed.len, lt, high) in subst (λ m. has (tags_of c.join_one.new.rest) m ≡ true) is gains) (cases_lt t n);
      high = λ t it. keeps t (was.high t it);
      capacity = omega (arith, pushed.capacity, was.capacity);
      promised = λ k h at. let next = row_rest (λ i x. IsPromised c.args.trunk.now bounds is_live jobs most boxes inboxes (n + i) x.promise) _ _ c.in-Some.handle step.0 was.promised k h at in
          let more : n + suc k ≡ vec_len c.push_reserved.new.self + k = omega (arith, pushed.len) in subst (λ m. IsPromised c.args.trunk.now bounds is_live jobs most boxes inboxes m h.promise) more next;
      ended = row_push
          (λ i y. (job : JobState) (box : Mailbox) (before : Inbox) → slice_get jobs i ≡ Some job → slice_get boxes i ≡ Some box → slice_get inboxes i ≡ Some before
          → IsInboxOf box y.inbox × (y.is_whole ≡ true → IsThreadEnded capacity (most_in_all most (others_than job.channel jobs)) i is_live job most before y (with_tag index_of i now)))
          n c.loop-handle.joined.items c.push_reserved.new.self.items new long pushed.items
          (λ i y at_y job box before at_job at_box at_before.
          let low = place_below c.loop-handle.joined.items i y at_y in
          subst (λ es. IsInboxOf box y.inbox × (y.is_whole ≡ true → IsThreadEnded capacity (most_in_all most (others_than job.channel jobs)) i is_live job most before y es)) (sym (apart i (λ same. absurd (omega (arith, low, long, same)))))
          (was.ended i y at_y job box before at_job at_box at_before))
          (λ job box before at_job at_box at_before.
          let job_is : p.job.now ≡ job = same_some (sym here.job_is ∙ at_job) in
          let box_is : p.mailbox.now ≡ box = same_some (sym here.box_is ∙ at_box) in
          let before_is : p.inbox.value ≡ before = same_some (sym here.inbox_is ∙ at_before) in
          subst (λ (z : JobState × Mailbox × Inbox). IsInboxOf z.1 new.inbox × (new.is_whole ≡ true → IsThreadEnded capacity (most_in_all most (others_than z.0.channel jobs)) n is_live z.0 most z.2 new (with_tag index_of n now)))
          (λ i. (job_is i, box_is i, before_is i)) (box_there, mine_ended));
      later = λ t top. apart t (λ e. absurd (omega (arith, pushed.len, e, top))) ∙ was.later t (omega (arith, pushed.len, top));
    }
