use Rattle.std.proofs.Common.{rules, tests, is_some, ◌∙◌}
use Rattle.std.proofs.lemmas.Iterator.{YieldsList-from_slice}
use Rattle.std.proofs.lemmas.Iterator.Consumers.{YieldsList-from_filter, count_from_yields_List}
use Rattle.std.proofs.lemmas.List.Sums.{length-filter}
use Rattle.bench_compare.specs.declared.differences.Compared.{Compared}
use Rattle.bench_compare.proofs.lines.differing.Goals as goal

pub returns : goal.returns
returns c =
    count_from_yields_List c.filter.result c.count.result c.count.ensures.ran (YieldsList-from_filter _ (λ (x : Compared). is_some x.difference) (YieldsList-from_slice c.args.compared.now cc) c.filter.ensures.closure (λ x r q k. search (rules, tests)))
    ∙ length-filter (λ (x : Compared). is_some x.difference) c.args.compared.now
