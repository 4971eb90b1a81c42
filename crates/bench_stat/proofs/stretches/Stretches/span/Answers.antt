use Rattle.std.proofs.Common.{ap, ◌∙◌}
use Rattle.bench_stat.specs.Stretches.{kept_span}
use Rattle.bench_stat.proofs.Stretched.{span_kept}
use Rattle.bench_stat.proofs.stretches.Stretches.span.Goals as goal

pub returns-clause-span : goal.returns-clause-span
returns-clause-span c = λ history same. c.taken.ensures ∙ ap kept_span same ∙ span_kept history
