use Rattle.std.proofs.Common.{◌∙◌, refl, sym}
use Rattle.bench_judge.proofs.Holding.{put_here}
use Rattle.bench_judge.proofs.kept.Kept.put.Goals as goal

pub returns-then-is_at-clause-after : goal.returns-then-is_at-clause-after
returns-then-is_at-clause-after c = λ other. put_here c.args.self.now _ c.args.channel c.args.value other (sym c.is_at.ensures ∙ c.if-is_at.true) refl refl refl
