use Rattle.std.proofs.Common.{refl}
use Rattle.bench_judge.proofs.Holding.{put_there}
use Rattle.bench_judge.proofs.kept.Kept.change.Goals as goal

pub returns-clause-after : goal.returns-clause-after
returns-clause-after c = λ other. put_there c.args.self.now c.leave.new.self _ c.args.channel c.args.value other c.in_ok-leave.ensures refl refl refl
