use Rattle.std.proofs.Common.{◌+◌, length, ap, arith}
use Rattle.job_moments.specs.Chunks.{lines_in}
use Rattle.job_moments.proofs.Joined.{joined_long, joined_few}
use Rattle.job_moments.proofs.groups.number_of.Goals as goal

pub overflow_add-number : goal.overflow_add-number
overflow_add-number g c =
    let chunks = c.args.chunks.now in
    let i = c.loop-chunk.chunk-index in
    omega (
      arith,
      c.loop-chunk.invariant,
      joined_long lines_in chunks i c.chunk-item.result c.loop-chunk-test.true,
      joined_few lines_in chunks (i + 1),
      ap (λ k. length (lines_in k)) c.chunk-item.is,
      c.requires,
      c.len-number.ensures,
    )

pub loop-chunk-preserved : goal.loop-chunk-preserved
loop-chunk-preserved g c =
    let chunks = c.args.chunks.now in
    let i = c.loop-chunk.chunk-index in
    omega (
      arith,
      c.loop-chunk.invariant,
      joined_long lines_in chunks i c.chunk-item.result c.loop-chunk-test.true,
      ap (λ k. length (lines_in k)) c.chunk-item.is,
      c.len-number.ensures,
    )
