use Rattle.std.proofs.Common.{◌≤◌, ◌∷◌, []}
use Rattle.std.proofs.lemmas.List.Elements.{All-append, All-cons, All-nil}
use Rattle.bench_report.specs.Drafts.{last_number, numbers}
use Rattle.bench_report.specs.Reports.{IsPlaced}
use Rattle.bench_report.proofs.ListLemmas.{never_falls-push}
use Rattle.bench_report.proofs.channels.ChannelReport.add_placed.Goals as goal

pub invariant_of-self-2 : goal.invariant_of-self-2
invariant_of-self-2 c =
    let is = c.self.invariant in
    let after : last_number 0 (numbers c.self.inside.placed) ≤ c.args.placed.number = rw (c.last_placed.ensures) at c.if-placed-last_placed.false in
    rw c.in_ok-push.ensures.pushed (record {
      channel_low = is.channel_low;
      channel_high = is.channel_high;
      made = is.made;
      refused = is.refused;
      placed = All-append IsPlaced c.self.inside.placed (c.args.placed ∷ []) is.placed (All-cons IsPlaced c.args.placed [] c.requires (All-nil IsPlaced));
      order = never_falls-push 0 c.self.inside.placed c.args.placed is.order after;
    })
