use Rattle.std.proofs.Common.{◌∙◌}
use Rattle.bench_settings.proofs.Sorting.{rises}
use Rattle.bench_settings.proofs.Adding.{added_ordered, added_is}
use Rattle.bench_settings.proofs.placing.add_action.Goals as goal

pub put_in-requires-clause-rising : goal.put_in-requires-clause-rising
put_in-requires-clause-rising c = rises 0 c.args.ordered.now.actions c.requires.ordered.order

pub returns-clause-fit : goal.returns-clause-fit
returns-clause-fit c =
    let put = c.put_in.ensures.put in
    rw put.is (added_ordered put.place c.args.one c.args.ordered.now.actions c.requires.place c.requires.ordered put.parted)

pub returns-clause-ordered : goal.returns-clause-ordered
returns-clause-ordered c =
    let put = c.put_in.ensures.put in
    λ actions same. put.is ∙ added_is put.place c.args.one c.args.ordered.now.actions actions c.requires.place c.requires.ordered put.parted same
