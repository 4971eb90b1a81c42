use Rattle.std.proofs.Common.{◌-◌, length, refl, arith}
use Rattle.job_moments.specs.Chunks.{behind}
use Rattle.job_moments.proofs.Grouping.{group_last}
use Rattle.job_moments.proofs.groups.put_last.Goals as goal

pub returns : goal.returns
returns g c = group_last c.args.groups.now _ (length c.args.groups.now - 1) c.index-groups-last.result c.put.new.self
    (behind c.args.line c.put.result) (omega (arith, c.requires)) refl c.put.ensures.lines c.put.ensures.quiet
