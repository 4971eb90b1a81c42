use Rattle.ch11_writer.proofs.Prefixes.{written_next, was_whole}
use Rattle.ch11_writer.proofs.writer.Writer.put.Goals as goal

pub returns-clause-written : goal.returns-clause-written
returns-clause-written g c =
    let sent = c.send-sent.ensures in
    rw (← c.self.view_is, c.if-self.false) (λ put before w.
    written_next put c.args.bytes.now before (g.S.Sink.taken c.self.inside.sink) (g.S.Sink.taken c.send-sent.new.sink) c.self.inside.taken c.send-sent.result.count _ w sent.within sent.appended (λ no. (sent.all (was_whole c.send-sent.result.whole no)).0))
