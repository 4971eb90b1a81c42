use Rattle.std.proofs.Common.{sym, ◌∙◌}
use Rattle.bench_decode.proofs.Answered.{none_more}
use Rattle.bench_decode.proofs.superseding.first_answered.Goals as goal

pub places-preserved : goal.places-preserved
places-preserved c = none_more c.args.view.now c.args.from c.places.place c.places.invariant (sym c.is_answered.ensures ∙ c.if-is_answered.false)
