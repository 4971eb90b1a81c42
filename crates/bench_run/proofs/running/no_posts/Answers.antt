use Rattle.std.proofs.Common.{rules, arith, sym, ◌≡◌, length, vec_len, subst, List}
use Rattle.bench_mail.specs.declared.mailbox.Mailbox.{Mailbox}
use Rattle.bench_mail.specs.declared.mailbox.Inbox.{Inbox}
use Rattle.bench_run.specs.Live.{AreInboxesOf}
use Rattle.bench_run.proofs.Lives.{ends_more}
use Rattle.bench_run.proofs.running.no_posts.Goals as goal

pub loop-job-preserved : goal.loop-job-preserved
loop-job-preserved c =
    let was = c.loop-job.invariant in
    let first = c.push_reserved.ensures in
    let second = c.push_reserved-in-loop-job.ensures in
    let long : length c.loop-job.boxes.items ≡ vec_len c.loop-job.boxes = search rules in
    let long' : length c.loop-job.inboxes.items ≡ vec_len c.loop-job.inboxes = search rules in
    record {
      len = omega (arith, was.len, first.len);
      len_too = omega (arith, was.len_too, second.len);
      room = omega (arith, was.room, first.capacity);
      room_too = omega (arith, was.room_too, second.capacity);
      ends = subst (λ (z : List Mailbox × List Inbox). AreInboxesOf z.0 z.1) (λ i. (sym first.items i, sym second.items i))
          (ends_more c.loop-job.boxes.items c.loop-job.inboxes.items c.in-Ok.mailbox c.in-Ok.inbox (omega (arith, long, long', was.len, was.len_too)) was.ends c.in-Ok.ensures.ends.1);
    }
