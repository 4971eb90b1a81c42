use Rattle.std.proofs.Common.{◌≡◌, ◌∙◌, true, List, length, sym, ap, subst, arith, rules}
use Rattle.std.specs.List.{AllByRecursion}
use Rattle.std.specs.Prelude.{vec_len}
use Rattle.std.proofs.lemmas.List.{length-map}
use Rattle.mil_trunk.specs.Ends.{capacity_of, bounds_of, sent, received}
use Rattle.bench_report.specs.Reports.{ChannelPart}
use Rattle.bench_run.specs.declared.channel.Room.{Room}
use Rattle.bench_run.specs.declared.threads.Joined.{Joined}
use Rattle.bench_mail.specs.declared.mailbox.Inbox.{Inbox}
use Rattle.bench_run.specs.Live.{AreInboxesOf}
use Rattle.bench_run.specs.Threads.{IsPromised, IsRoom}
use Rattle.bench_run.specs.Ending.{IsAllLive}
use Rattle.bench_run.proofs.Rows.{pairs_length}
use Rattle.bench_run.proofs.Lives.{all_live, inboxes_back}
use Rattle.bench_run.proofs.scope.on_threads.Goals as goal

pub join_all-joined-requires-clause-promised : goal.join_all-joined-requires-clause-promised
join_all-joined-requires-clause-promised g c k h at =
    subst (λ bounds. IsPromised c.args.context.now.trunk.now bounds c.args.before.now.is_live c.args.before.now.jobs.now c.args.before.now.most c.args.before.now.boxes.now c.args.before.now.inboxes.value.items k h.promise) (sym c.start_all-handles.ensures.bounds) (c.start_all-handles.ensures.promised k h at)

pub conclude-requires-clause-all : goal.conclude-requires-clause-all
conclude-requires-clause-all g c =
    let trunk = c.args.context.now.trunk.now in
    let jobs = c.args.before.now.jobs.now in
    let most = c.args.before.now.most in
    let queue = c.args.before.now.settings.now.queue in
    let olds = c.args.before.now.inboxes.value.items in
    let ended = c.join_all-joined.ensures in
    let rest = c.join_all-joined.new.rest in
    let joined = c.join_all-joined.result in
    let rooms = c.args.own.rooms.items in
    let got = received c.settle-taker.result.1 in
    let long : length joined.items ≡ vec_len joined = search rules in
    let all_joined : length joined.items ≡ length jobs = omega (arith, long, ended.len, c.start_all-handles.ensures.started, c.len-started.ensures, c.if-started-jobs.false) in
    let olds_long : length olds ≡ length jobs = ap length (sym c.requires.ready.inboxes_are) ∙ length-map rooms (λ (room : Room). room.posts.inbox) ∙ pairs_length IsRoom jobs rooms c.requires.ready.rooms in
    let is_live = c.args.before.now.is_live in
    let all = all_live (capacity_of trunk) queue is_live most jobs c.args.before.now.boxes.now olds joined.items (sent rest) got (bounds_of rest)
    c.requires.ready.capacity_is c.requires.lawful.ranges.few (ended.ticket.1 ∙ c.start_all-handles.ensures.bounds ∙ c.requires.ready.bounds)
    c.requires.mailboxes olds_long all_joined ended.ended (subst (AllByRecursion (λ (j : Joined). j.is_whole ≡ true)) c.deref.ensures.value (c.are_whole.ensures c.if-not-are_whole.false)) c.settle-taker.ensures.settled c.settle-taker.ensures.barred in
    subst (λ (z : List Inbox × List ChannelPart). IsAllLive queue is_live most jobs olds z.0 z.1 got) (λ i. (sym c.parted-parts.ensures.inboxes i, sym c.parted-parts.ensures.parts i)) all

pub conclude-requires-clause-ends : goal.conclude-requires-clause-ends
conclude-requires-clause-ends g c =
    let jobs = c.args.before.now.jobs.now in
    let boxes = c.args.before.now.boxes.now in
    let olds = c.args.before.now.inboxes.value.items in
    let ended = c.join_all-joined.ensures in
    let joined = c.join_all-joined.result in
    let rooms = c.args.own.rooms.items in
    let long : length joined.items ≡ vec_len joined = search rules in
    let all_joined : length joined.items ≡ length jobs = omega (arith, long, ended.len, c.start_all-handles.ensures.started, c.len-started.ensures, c.if-started-jobs.false) in
    let olds_long : length olds ≡ length jobs = ap length (sym c.requires.ready.inboxes_are) ∙ length-map rooms (λ (room : Room). room.posts.inbox) ∙ pairs_length IsRoom jobs rooms c.requires.ready.rooms in
    let back = inboxes_back (capacity_of c.args.context.now.trunk.now) c.args.before.now.settings.now.queue c.args.before.now.is_live c.args.before.now.most jobs boxes olds joined.items (sent c.join_all-joined.new.rest) (received c.settle-taker.result.1) (bounds_of c.join_all-joined.new.rest) olds_long c.requires.mailboxes ended.ended all_joined in
    subst (AreInboxesOf boxes) (sym c.parted-parts.ensures.inboxes) back
