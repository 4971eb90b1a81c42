use Rattle.bench_export.proofs.Putting.{change_put}
use Rattle.bench_export.proofs.signals.put_change.Goals as goal

pub returns-clause-put : goal.returns-clause-put
returns-clause-put c =
    change_put _ _ c.args.room.now _ _ c.requires (rw (c.shown.ensures, c.wire.ensures.on_b, c.wire.ensures.channel) at c.put_shown-end.ensures.put) c.put_time.ensures.put
