use Rattle.std.proofs.Common.{◌∙◌}
use Rattle.ch11_writer.proofs.Prefixes.{appends_next, next_within}
use Rattle.ch11_writer.proofs.writer.send.Goals as goal

pub loop-count-preserved : goal.loop-count-preserved
loop-count-preserved g c =
    let ok = c.in-Ok.ensures in
    record {
      within = next_within c.loop-count.count c.in-Ok.n c.args.bytes.now c.loop-count.invariant.within ok.count.1;
      appended = appends_next (g.S.Sink.taken c.args.sink.now) (g.S.Sink.taken c.loop-count.sink) (g.S.Sink.taken c.take.new.self) c.loop-count.count c.in-Ok.n c.args.bytes.now c.loop-count.invariant.appended ok.taken;
      failures = ok.failures ∙ c.loop-count.invariant.failures;
      finished = ok.finished ∙ c.loop-count.invariant.finished;
    }
