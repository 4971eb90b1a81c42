use Rattle.std.proofs.Common.{sym, take, arith}
use Rattle.std.proofs.lemmas.List.{take_all}
use Rattle.std.proofs.lemmas.List.Elements.{All-same}
use Rattle.job_moments.specs.Awaiting.{due_of}
use Rattle.job_moments.specs.Quiet.{Sleeps}
use Rattle.job_moments.proofs.Chunking.{sleeps_more}
use Rattle.job_moments.proofs.waiting.quiet_of.Goals as goal

pub loop-line-preserved : goal.loop-line-preserved
loop-line-preserved g c = sleeps_more due_of c.narrowed-quiet.result c.loop-line.quiet c.args.counts.now.made c.args.lines.now
    c.loop-line.line-index c.line-item.result c.loop-line-test.true c.line-item.is c.narrowed-quiet.ensures.part c.loop-line.invariant c.narrowed-quiet.ensures.sleeps

pub returns : goal.returns
returns g c =
    let lines = c.args.lines.now in
    All-same (λ line. Sleeps c.loop-line.quiet c.args.counts.now.made (due_of line)) lines (take c.loop-line.line-index lines)
    (sym (take_all c.loop-line.line-index lines (omega (arith, c.loop-line-test.false)))) c.loop-line.invariant
