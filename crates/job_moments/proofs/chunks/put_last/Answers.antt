use Rattle.std.proofs.Common.{◌-◌, length, refl, arith}
use Rattle.job_moments.specs.Chunks.{behind}
use Rattle.job_moments.proofs.Chunking.{puts_last}
use Rattle.job_moments.proofs.chunks.put_last.Goals as goal

pub returns : goal.returns
returns g c = puts_last c.args.chunks.now _ (length c.args.chunks.now - 1) c.index-chunks-last.result c.put.new.self
    (behind c.args.line c.put.result) (omega (arith, c.requires)) refl c.put.ensures.lines c.put.ensures.quiet
