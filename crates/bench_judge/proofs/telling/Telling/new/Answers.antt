use Rattle.std.proofs.Common.{refl}
use Rattle.bench_judge.proofs.FirstTold.{telling-none}
use Rattle.bench_judge.proofs.telling.Telling.new.Goals as goal

pub returns : goal.returns
returns c = λ rule origins. telling-none rule origins c.args.most _ (c.new-tally.ensures rule origins) c.new-text.ensures.items refl
