use Rattle.std.proofs.Common.{◌<◌}
use Rattle.bench_report.specs.Drafts.{last_number}
use Rattle.bench_report.proofs.ListLemmas.{rises-push}
use Rattle.bench_report.proofs.channels.ChannelReport.add_refused.Goals as goal

pub invariant_of-self-2 : goal.invariant_of-self-2
invariant_of-self-2 c =
    let is = c.self.invariant in
    let above : last_number 0 c.self.inside.refused.items < c.args.number = rw (c.last_refused.ensures, c.deref.ensures.value) at c.if-number-last_refused.false in
    rw c.in_ok-push.ensures.items (record {
      channel_low = is.channel_low;
      channel_high = is.channel_high;
      made = is.made;
      refused = rises-push 0 c.self.inside.made c.self.inside.refused.items c.args.number is.refused above c.if-self-number.false;
      placed = is.placed;
      order = is.order;
    })
