use Rattle.std.proofs.Common.{arith, refl}
use Rattle.bench_live.proofs.Opened.{opened_more}
use Rattle.bench_live.proofs.desk.Desk.add.Goals as goal

pub returns : goal.returns
returns c =
    let made = c.in-Ok.ensures in
    opened_more c.args.self.now _ c.args.hands.now.items c.push-4.new.self.items c.args.inboxes.now.items c.push-5.new.self.items c.in-Ok.mailbox
    _ c.in-Ok.inbox c.channel.result c.new.result c.requires
    c.in_ok-push.ensures.items c.in_ok-push-2.ensures.items c.in_ok-push-3.ensures.items c.in_ok-push-4.ensures.items c.in_ok-push-5.ensures.items
    (record {
      poster = made.ends.0;
      holds = made.hosts 0 (omega arith);
      limit = made.limits 0 (omega arith);
      counted = rw made.posted refl;
      few = omega arith;
    })
    made.posted made.ends.1
