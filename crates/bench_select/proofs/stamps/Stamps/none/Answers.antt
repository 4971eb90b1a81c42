use Rattle.bench_select.proofs.Stamping.{nothing_begun}
use Rattle.bench_select.proofs.stamps.Stamps.none.Goals as goal

pub returns : goal.returns
returns c = nothing_begun _ c.new-origins.ensures.items c.new-unknown.ensures.items
