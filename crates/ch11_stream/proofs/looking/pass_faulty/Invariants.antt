use Rattle.std.specs.Io.KnownBytes.{prepend_known}
use Rattle.ch11_stream.specs.Looking.{IsPast}
use Rattle.ch11_stream.proofs.looking.pass_faulty.Given as goal

abbrev pub invariant-passes : goal.invariant-passes
invariant-passes g l = IsPast l.passed (prepend_known l.fn.buffer.ready (g.R.Read.remaining l.fn.input)) (prepend_known l.buffer.ready (g.R.Read.remaining l.input))
