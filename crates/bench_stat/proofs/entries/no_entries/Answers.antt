use Rattle.std.proofs.Common.{List, length, get_or, ap, ◌∙◌}
use Rattle.std.proofs.lemmas.List.{get_or-replicate, length-replicate}
use Rattle.bench_stat.specs.declared.flows.Flow.{Flow}
use Rattle.bench_stat.proofs.Following.{none}
use Rattle.bench_stat.proofs.entries.no_entries.Goals as goal

pub returns : goal.returns
returns c =
    let same = c.in_ok-entries.ensures.items_if_clones_equal (λ x h. h) in
    record {
      many = ap (λ (fs : List Flow). length fs) same ∙ length-replicate {A = Flow} 2048 c.none.result;
      each = λ entry below. ap (λ (fs : List Flow). get_or fs entry none) same ∙ get_or-replicate 2048 entry c.none.result none below ∙ c.none.ensures;
    }
