use Rattle.std.proofs.Common.{◌≡◌, take, sym, subst, ◌∙◌, rules}
use Rattle.bench_report.specs.Reports.{NeverFalls}
use Rattle.bench_settings.proofs.Sorting.{rises, order_taken, taken_is}
use Rattle.bench_settings.proofs.parts.channel_report.Goals as goal

pub behind-kept-requires : goal.behind-kept-requires
behind-kept-requires c = rises 0 c.args.ordered c.requires.ordered.order

pub make-requires-clause-order : goal.make-requires-clause-order
make-requires-clause-order c = subst (NeverFalls 0) (sym c.truncate.ensures) (order_taken 0 c.behind-kept.result c.args.ordered c.requires.ordered.order)

pub returns-clause-placed : goal.returns-clause-placed
returns-clause-placed c = λ actions same.
    let placed : c.make.result.placed ≡ take c.behind-kept.result c.args.ordered = search rules in
    placed ∙ taken_is c.args.made c.behind-kept.result c.args.ordered actions c.requires.made c.requires.ordered c.behind-kept.ensures.parted same
