use Rattle.ch11_stream.proofs.Feeding.{Passing}
use Rattle.ch11_stream.proofs.feed.pass.Given as goal

abbrev pub invariant-reads : goal.invariant-reads
invariant-reads g l = Passing l.count l.left (g.R.Read.remaining l.fn.input) (g.R.Read.remaining l.input) l.fn.buffer.ready l.buffer.ready
