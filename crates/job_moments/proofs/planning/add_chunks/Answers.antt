use Rattle.std.proofs.Common.{sym, subst}
use Rattle.job_moments.specs.Rules.{KnowsChunk}
use Rattle.job_moments.proofs.planning.add_chunks.Goals as goal

pub add_chunk-requires-clause-known : goal.add_chunk-requires-clause-known
add_chunk-requires-clause-known c = subst (KnowsChunk c.args.counts.now) (sym c.chunk-item.is)
    (c.requires.known c.loop-chunk.chunk-index c.chunk-item.result c.loop-chunk-test.true)
