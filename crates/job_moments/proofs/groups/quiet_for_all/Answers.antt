use Rattle.std.proofs.Common.{sym, take, arith}
use Rattle.std.proofs.lemmas.List.{take_all}
use Rattle.std.proofs.lemmas.List.Elements.{All-same}
use Rattle.job_moments.specs.Quiet.{IsPart}
use Rattle.job_moments.proofs.Grouping.{parts_more}
use Rattle.job_moments.proofs.groups.quiet_for_all.Goals as goal

pub loop-chunk-preserved : goal.loop-chunk-preserved
loop-chunk-preserved g c = parts_more c.within-quiet.result c.loop-chunk.quiet c.args.chunks.now c.loop-chunk.chunk-index c.chunk-item.result
    c.loop-chunk-test.true c.chunk-item.is c.within-quiet.ensures.one c.within-quiet.ensures.other c.loop-chunk.invariant

pub returns : goal.returns
returns g c =
    let chunks = c.args.chunks.now in
    All-same (λ chunk. IsPart c.loop-chunk.quiet chunk.quiet) chunks (take c.loop-chunk.chunk-index chunks)
    (sym (take_all c.loop-chunk.chunk-index chunks (omega (arith, c.loop-chunk-test.false)))) c.loop-chunk.invariant
