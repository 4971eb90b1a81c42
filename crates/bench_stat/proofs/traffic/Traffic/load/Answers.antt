use Rattle.std.proofs.Common.{ℕ, ap, ◌∙◌}
use Rattle.bench_stat.specs.declared.traffic.Traffic.{Traffic}
use Rattle.bench_stat.specs.Figures.{share_of}
use Rattle.bench_stat.specs.Stretches.{span}
use Rattle.bench_stat.proofs.traffic.Traffic.load.Goals as goal

pub returns-clause-load : goal.returns-clause-load
returns-clause-load c = λ history same. c.share_of.ensures ∙ ap (λ (n : ℕ). share_of c.args.self.now.busy n) (c.span.ensures.span history same) ∙ ap (λ (t : Traffic). share_of t.busy (span history)) same
