use Rattle.std.proofs.Common.{Bool, false, List, get_or, ap, ◌∙◌}
use Rattle.std.proofs.lemmas.List.{get_or-replicate, length-replicate}
use Rattle.bench_export.proofs.Surveying.{none_noted}
use Rattle.bench_export.proofs.survey.Survey.of_none.Goals as goal

pub returns-clause-none : goal.returns-clause-none
returns-clause-none c =
    none_noted c.in_ok-marks.marks.items (λ k below. ap (λ (xs : List Bool). get_or xs k false) c.in_ok-marks.ensures.items ∙ get_or-replicate 65536 k false false below)
