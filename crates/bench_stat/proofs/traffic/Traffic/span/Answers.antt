use Rattle.std.proofs.Common.{ap}
use Rattle.bench_stat.specs.declared.traffic.Traffic.{Traffic}
use Rattle.bench_stat.proofs.traffic.Traffic.span.Goals as goal

pub returns-clause-span : goal.returns-clause-span
returns-clause-span c = λ history same. c.span.ensures.span history (ap (λ (t : Traffic). t.stretches) same)
