use Rattle.std.proofs.Common.{All, sym, subst}
use Rattle.job_moments.specs.declared.waiting.Pending.{Pending}
use Rattle.job_moments.specs.Awaiting.{due_of, HasItsCounter}
use Rattle.job_moments.specs.Chunks.{lines_in}
use Rattle.job_moments.specs.Quiet.{Sleeps}
use Rattle.job_moments.proofs.Taking.{picks_all}
use Rattle.job_moments.proofs.waiting.take_one.Goals as goal

pub quiet_of-chunk-requires-clause-counters : goal.quiet_of-chunk-requires-clause-counters
quiet_of-chunk-requires-clause-counters g c =
    let selectors = c.args.counts.now.selectors in
    subst (All (HasItsCounter selectors)) (sym c.deref.ensures.value)
    (picks_all (HasItsCounter selectors) c.args.counts.now.made c.args.next.now (lines_in c.args.chunk.now) c.take_line-payload.new.lines.items
    c.take_line-payload.result c.take_line-payload.ensures c.requires.known.stand)

pub returns-clause-known : goal.returns-clause-known
returns-clause-known g c =
    let counts = c.args.counts.now in
    record {
      stand = picks_all (HasItsCounter counts.selectors) counts.made c.args.next.now (lines_in c.args.chunk.now) c.take_line-payload.new.lines.items
          c.take_line-payload.result c.take_line-payload.ensures c.requires.known.stand;
      sleeps = subst (All (λ (l : Pending g.row.T.Denot). Sleeps c.quiet_of-chunk.result counts.made (due_of l))) c.deref.ensures.value c.quiet_of-chunk.ensures;
    }
