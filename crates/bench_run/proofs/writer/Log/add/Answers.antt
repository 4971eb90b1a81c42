use Rattle.bench_run.proofs.Logged.{one_more, none_more}
use Rattle.bench_run.proofs.writer.Log.add.Goals as goal

pub returns-then-self-clause-recorded : goal.returns-then-self-clause-recorded
returns-then-self-clause-recorded g c =
    λ got distinct f prologue before is. one_more g.S.Sink.taken g.S.Sink.failures f prologue before c.args.channels.now c.latest_is_last.ensures distinct got c.args.self.now.recorder c.put-self.new.self.recorder c.args.entry.now
    c.args.self.now.whole c.put-self.result c.if-self.true c.put-self.ensures.goes_on c.put-self.ensures.index c.put-self.ensures.refused c.put-self.ensures.when
    c.put-self.ensures.unfinished c.put-self.ensures.few c.put-self.ensures.failures is

pub returns-else-self-clause-recorded : goal.returns-else-self-clause-recorded
returns-else-self-clause-recorded g c =
    λ got distinct f prologue before is. none_more g.S.Sink.taken g.S.Sink.failures f prologue before c.args.channels.now got c.args.self.now.recorder c.args.entry.now c.args.self.now.whole c.if-self.false is
